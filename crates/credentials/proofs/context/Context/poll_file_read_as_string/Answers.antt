use Rattle.std.proofs.Common.{refl, sym, ap, subst, ◌∙◌, inr}
use Rattle.std.specs.Str.Lossy.{utf8_lossy}
use Rattle.credentials.specs.declared.polled.Polled.TheVariants.{Ready}
use Rattle.credentials.specs.Context.{Objects}
use Rattle.credentials.proofs.context.Context.poll_file_read_as_string.Goals as goal

pub returns-in-Ok-clause-gives : goal.returns-in-Ok-clause-gives
returns-in-Ok-clause-gives g c = λ path h.
    let reader = ap (λ (o : Objects g.row.F.Denot g.row.H.Denot g.row.E.Denot g.row.C.Denot). o.file_read) c.self.view_is in
    let begun = subst (λ (f : g.row.F.Denot). g.F.FileRead.started f path c.args.read.now) (sym reader) h in (
      Ready c.in-Ready.bytes.items,
      subst (λ (f : g.row.F.Denot). g.F.FileRead.gives f path (Ready c.in-Ready.bytes.items)) reader (c.in-Ready.ensures.gives path begun),
      inr (c.in-Ok.text, refl, c.in-Ok.ensures.lossy ∙ ap utf8_lossy c.as_slice.ensures.value),
    )
