use Rattle.std.proofs.Common.{◌≡◌, ◌∙◌, refl, ap, option_map}
use Rattle.std.specs.String.{string_bytes}
use Rattle.aws_profiles.specs.Sections.{place_of}
use Rattle.aws_process.specs.CommandLine.{command_in}
use Rattle.aws_process.proofs.ProfileLemmas.{line-gives, line-leads, line-waits, memory-gives, none-leads, read-begun, read-ready, read-waits, said-gives}
use Rattle.aws_process.proofs.profile_steps.poll_file.Goals as goal

pub returns-in-Ready-Some-clause-kept : goal.returns-in-Ready-Some-clause-kept
returns-in-Ready-Some-clause-kept g c = λ started at.
    let v = g.X.HasVariables.variables c.args.ctx.now in
    let h = g.X.HasFiles.home c.args.ctx.now in
    let reads = g.X.HasFiles.reads c.args.ctx.now in
    let answers = g.X.HasCommands.answers c.args.ctx.now in
    let chosen = option_map string_bytes c.args.chosen.now in
    let file = c.args.file in
    let reading = command_in c.place.result.now c.as_str.result.now in
    let is : reading ≡ command_in (place_of file) (string_bytes c.in-Ready-Some.line) =
    ap (λ p. command_in p c.as_str.result.now) c.place.ensures ∙ ap (command_in (place_of file)) c.as_str.ensures.value in
    let says = (rw c.in-Ready-Some.field-0-is at c.in-Ready-Some.ensures.gives)
    (read-begun v h reads answers chosen (g.X.HasFiles.begun c.args.ctx.now) (g.X.HasCommands.begun c.args.ctx.now) file c.args.open_read at) in
    line-waits v h reads answers chosen (g.X.HasFiles.begun c.args.ctx.now) (g.X.HasCommands.begun c.args.ctx.now) file c.args.open_read reading
    c.args.load.now c.run_line.new.load c.run_line.ensures.kept (line-leads v h reads answers chosen file _ reading says is) started at

pub returns-in-Ready-Some-clause-gives : goal.returns-in-Ready-Some-clause-gives
returns-in-Ready-Some-clause-gives g c = λ begun.
    let file = c.args.file in
    let reading = command_in c.place.result.now c.as_str.result.now in
    let is : reading ≡ command_in (place_of file) (string_bytes c.in-Ready-Some.line) =
    ap (λ p. command_in p c.as_str.result.now) c.place.ensures ∙ ap (command_in (place_of file)) c.as_str.ensures.value in
    line-gives (g.X.HasVariables.variables c.args.ctx.now) (g.X.HasFiles.home c.args.ctx.now) (g.X.HasFiles.reads c.args.ctx.now)
    (g.X.HasCommands.answers c.args.ctx.now) (option_map string_bytes c.args.chosen.now) file _ reading c.run_line.result
    ((rw c.in-Ready-Some.field-0-is at c.in-Ready-Some.ensures.gives) begun) is c.run_line.ensures.gives

pub returns-in-Ready-None-clause-none : goal.returns-in-Ready-None-clause-none
returns-in-Ready-None-clause-none g c = λ begun.
    none-leads (g.X.HasVariables.variables c.args.ctx.now) (g.X.HasFiles.home c.args.ctx.now) (g.X.HasFiles.reads c.args.ctx.now)
    (g.X.HasCommands.answers c.args.ctx.now) (option_map string_bytes c.args.chosen.now) c.args.file
    ((rw c.in-Ready-None.field-0-is at c.in-Ready-None.ensures.gives) begun)

pub returns-in-Pending-clause-kept : goal.returns-in-Pending-clause-kept
returns-in-Pending-clause-kept g c = λ started at.
    read-waits (g.X.HasVariables.variables c.args.ctx.now) (g.X.HasFiles.home c.args.ctx.now) (g.X.HasFiles.reads c.args.ctx.now)
    (g.X.HasCommands.answers c.args.ctx.now) (option_map string_bytes c.args.chosen.now) (g.X.HasFiles.begun c.args.ctx.now)
    (g.X.HasCommands.begun c.args.ctx.now) c.args.file c.args.open_read c.poll_process_line.new.open_read c.in-Pending.ensures.kept at

pub returns-in-Pending-clause-gives : goal.returns-in-Pending-clause-gives
returns-in-Pending-clause-gives g c = λ begun.
    said-gives (g.X.HasVariables.variables c.args.ctx.now) (g.X.HasFiles.home c.args.ctx.now) (g.X.HasFiles.reads c.args.ctx.now)
    (g.X.HasCommands.answers c.args.ctx.now) (option_map string_bytes c.args.chosen.now) c.args.file _ _ (c.in-Pending.ensures.gives begun) refl

pub returns-in-Pending-clause-ready : goal.returns-in-Pending-clause-ready
returns-in-Pending-clause-ready g c = λ now reads runs pending.
    c.in-Pending.ensures.ready (read-ready c.args.open_read (g.X.HasFiles.read_ready c.args.ctx.now) _ now reads) refl

pub returns-in-Failed-clause-gives : goal.returns-in-Failed-clause-gives
returns-in-Failed-clause-gives g c = λ begun.
    said-gives (g.X.HasVariables.variables c.args.ctx.now) (g.X.HasFiles.home c.args.ctx.now) (g.X.HasFiles.reads c.args.ctx.now)
    (g.X.HasCommands.answers c.args.ctx.now) (option_map string_bytes c.args.chosen.now) c.args.file _ _ (c.in-Failed.ensures.gives begun) refl

pub returns-clause-gives : goal.returns-clause-gives
returns-clause-gives g c = λ begun.
    memory-gives (g.X.HasVariables.variables c.args.ctx.now) (g.X.HasFiles.home c.args.ctx.now) (g.X.HasFiles.reads c.args.ctx.now)
    (g.X.HasCommands.answers c.args.ctx.now) (option_map string_bytes c.args.chosen.now) c.args.file _ refl
