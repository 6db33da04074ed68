use Rattle.std.proofs.Common.{◌≡◌, map, false, ap, ◌∙◌}
use Rattle.std.specs.List.{list_any}
use Rattle.signer_shared.specs.declared.job.Served.{Served}
use Rattle.signctl_threads.proofs.PoolRuns.{few_lists, where_refused, settles, refuses}
use Rattle.signctl_threads.proofs.pool.run_workers.Goals as goal

pub serve_all-requires-after_bounds : goal.serve_all-requires-after_bounds
serve_all-requires-after_bounds g c κs within =
    few_lists (λ l. l.items) c.as_slice.result.now c.args.workers c.args.jobs
    (ap (map (λ l. l.items)) c.as_slice.ensures.value ∙ c.in-Ok-pool_work.ensures) c.requires.few

pub returns-in-Ok-serve_all : goal.returns-in-Ok-serve_all
returns-in-Ok-serve_all g c =
    let none : list_any (λ (s : Served). s.out_of_memory) c.in-Ok-serve_all.field-0.served.items ≡ false = cc in
    settles (g.G.Gate.meaning c.args.gate.now) c.args.workers c.args.jobs c.in-Ok-serve_all.field-0.settled c.in-Ok.shared
    (map (λ l. l.items) c.as_slice.result.now) c.in-Ok-serve_all.field-0.served.items c.in-Ok.ensures
    (ap (map (λ l. l.items)) c.as_slice.ensures.value ∙ c.in-Ok-pool_work.ensures)
    c.in-Ok-serve_all.ensures.settled c.in-Ok-serve_all.ensures.desk c.in-Ok-serve_all.ensures.serves none

pub returns-in-Err-Close : goal.returns-in-Err-Close
returns-in-Err-Close g c =
    let none : list_any (λ (s : Served). s.out_of_memory) c.in-Err-Close.served.items ≡ false = cc in
    let h = where_refused _ _ c.in-Err-Close.field-0 c.in-Err-Close.refused c.in-Err-Close.served c.in-Err-Close.field-0-is c.in-Err-Close.ensures.refused in
    refuses (g.G.Gate.meaning c.args.gate.now) c.args.workers c.args.jobs c.in-Err-Close.refused c.in-Ok.shared
    (map (λ l. l.items) c.as_slice.result.now) c.in-Err-Close.served.items c.in-Ok.ensures
    (ap (map (λ l. l.items)) c.as_slice.ensures.value ∙ c.in-Ok-pool_work.ensures) h.0 h.1 h.2 h.3 none
