use Rattle.std.proofs.Common.{rules, ◌≡◌, ◌≤◌, ◌+◌, ◌++◌, ◌∷◌, [], true, false, ℕ, List, IsTrue, IsSome, length, sym, ◌∙◌, ap, subst, arith, vec_capacity, min, length-append}
use Rattle.sequential_signer.specs.Policy.{policy_of}
use Rattle.sequential_signer.specs.Transcript.{committed_entries, is_out_of_memory, call_of}
use Rattle.sequential_signer.specs.declared.event.Entry.{Entry}
use Rattle.sequential_signer.specs.declared.event.Reply.{Reply}
use Rattle.sequential_signer.specs.declared.event.Reply.TheVariants.{OutOfMemory}
use Rattle.sequential_signer.proofs.Run.{out_of_memory-is}
use Rattle.desk_parts.specs.Tables.{setup_of}
use Rattle.sign_desk.specs.Change.{UnchangedBy}
use Rattle.sign_desk.specs.DeskState.{DeskState, Represents}
use Rattle.sign_desk.specs.LiveCount.{LiveAfter}
use Rattle.sign_desk.specs.ReplyKinds.{is_reply_to}
use Rattle.signer_book.specs.BookState.{BookState}
use Rattle.signer_book.specs.declared.pass.Receipt.{Receipt}
use Rattle.sign_base.specs.declared.call_id.CallId.{CallId}
use Rattle.sequential_signer.specs.Legal.{IsLegalEntry}
use Rattle.sequential_signer.specs.declared.event.Event.{Event}
use Rattle.desk_parts.specs.LiveCallView.{find_view}
use Rattle.signer_book.specs.OpenBegins.{is_open}
use Rattle.sequential_signer.specs.Replies.{is_cancelled}
use Rattle.signer_book.proofs.Applying.{in-memory, kept-is, live-cancelled, cancel-in_memory, steps-behind}
use Rattle.signer_book.proofs.journaled_desk.JournaledDesk.apply.Goals as goal

pub take_receipt_room-requires : goal.take_receipt_room-requires
take_receipt_room-requires g c = c.pass.invariant

pub invariant_of-pass : goal.invariant_of-pass
invariant_of-pass g c = c.take_receipt_room.ensures.before

pub invariant_of-pass-then-is_out_of_memory : goal.invariant_of-pass-then-is_out_of_memory
invariant_of-pass-then-is_out_of_memory g c = c.take_receipt_room.ensures.before

pub invariant_of-self : goal.invariant_of-self
invariant_of-self g c = record { past = c.self.invariant.past; represents = rw c.take_entry_room.ensures.items c.self.invariant.represents; room = omega (arith, c.take_entry_room.ensures.before, c.live-live.ensures) }

pub invariant_of-self-in_default-take_receipt_room : goal.invariant_of-self-in_default-take_receipt_room
invariant_of-self-in_default-take_receipt_room g c = record { past = c.self.invariant.past; represents = rw c.take_entry_room.ensures.items c.self.invariant.represents; room = omega (arith, c.take_entry_room.ensures.before, c.live-live.ensures) }

pub invariant_of-self-then-is_out_of_memory : goal.invariant_of-self-then-is_out_of_memory
invariant_of-self-then-is_out_of_memory g c =
    let policy = policy_of g.K.SigningCredential.valid g.K.SigningCredential.valid_at g.D.DeadlineRule.deadline in
    let is : c.step-reply.result ≡ OutOfMemory = out_of_memory-is c.step-reply.result (sym c.is_out_of_memory.ensures ∙ c.if-is_out_of_memory.true) in
    let stays : c.step-reply.new.self ≡ c.self.inside.desk = subst (λ (r : Reply g.row.K.Denot). UnchangedBy r c.self.inside.desk c.step-reply.new.self) is c.step-reply.ensures.step.unchanged in
    let calls : length c.step-reply.new.self.calls ≡ length c.self.inside.desk.calls = ap (λ (k : DeskState g.row.K.Denot g.row.D.Denot). length k.calls) stays in
    record { past = c.self.invariant.past; represents = rw (stays, c.take_entry_room.ensures.items) c.self.invariant.represents; room = omega (arith, c.take_entry_room.ensures.before, c.live-live.ensures, calls) }

pub returns-then-is_out_of_memory-clause-follows : goal.returns-then-is_out_of_memory-clause-follows
returns-then-is_out_of_memory-clause-follows g c =
    let policy = policy_of g.K.SigningCredential.valid g.K.SigningCredential.valid_at g.D.DeadlineRule.deadline in
    let is : c.step-reply.result ≡ OutOfMemory = out_of_memory-is c.step-reply.result (sym c.is_out_of_memory.ensures ∙ c.if-is_out_of_memory.true) in
    let stays : c.step-reply.new.self ≡ c.self.inside.desk = subst (λ (r : Reply g.row.K.Denot). UnchangedBy r c.self.inside.desk c.step-reply.new.self) is c.step-reply.ensures.step.unchanged in
    λ before stood.
    let h : Represents policy c.self.inside.desk (before ++ c.self.inside.journal.items) = subst (λ (b : BookState g.row.K.Denot g.row.D.Denot). Represents policy b.desk (before ++ b.journal)) (sym c.self.view_is) stood in
    rw (stays, c.take_entry_room.ensures.items) h

pub returns-then-is_out_of_memory-clause-book_unchanged :
    goal.returns-then-is_out_of_memory-clause-book_unchanged
returns-then-is_out_of_memory-clause-book_unchanged g c =
    let policy = policy_of g.K.SigningCredential.valid g.K.SigningCredential.valid_at g.D.DeadlineRule.deadline in
    let is : c.step-reply.result ≡ OutOfMemory = out_of_memory-is c.step-reply.result (sym c.is_out_of_memory.ensures ∙ c.if-is_out_of_memory.true) in
    let stays : c.step-reply.new.self ≡ c.self.inside.desk = subst (λ (r : Reply g.row.K.Denot). UnchangedBy r c.self.inside.desk c.step-reply.new.self) is c.step-reply.ensures.step.unchanged in
    λ _. (λ i. let b : BookState g.row.K.Denot g.row.D.Denot = record { desk = stays i; journal = c.take_entry_room.ensures.items i } in b) ∙ c.self.view_is

pub push_reserved-requires : goal.push_reserved-requires
push_reserved-requires g c =
    let policy = policy_of g.K.SigningCredential.valid g.K.SigningCredential.valid_at g.D.DeadlineRule.deadline in
    let items = c.self.inside.journal.items in
    let entries = c.self.invariant.past ++ items in
    let legal = c.step-reply.ensures.step.expected entries c.self.invariant.represents in
    let memory : is_out_of_memory c.step-reply.result ≡ false = sym c.is_out_of_memory.ensures ∙ c.if-is_out_of_memory.false in
    let kept : c.in-Some.kept ≡ record { event = c.args.event.now; reply = c.step-reply.result } = kept-is policy (setup_of c.self.inside.desk) (committed_entries entries) c.args.event.now c.step-reply.result c.in-Some.kept legal memory c.in-Some.ensures.event (c.in-Some.ensures.expected entries c.self.invariant.represents) in
    let same : c.in-Some.kept.reply ≡ c.step-reply.result = ap (λ (x : Entry g.row.K.Denot). x.reply) kept in
    let done : IsTrue c.take_entry_room.result = search rules in
    let live : LiveAfter c.in-Some.kept.reply c.live-live.result (length c.step-reply.new.self.calls) =
    subst (λ (r : Reply g.row.K.Denot). LiveAfter r c.live-live.result (length c.step-reply.new.self.calls)) (sym same) (subst (λ (n : ℕ). LiveAfter c.step-reply.result n (length c.step-reply.new.self.calls)) (sym c.live-live.ensures) c.step-reply.ensures.live) in
    let room : length items + 1 + length c.step-reply.new.self.calls ≤ min (vec_capacity c.take_entry_room.new.journal) (vec_capacity c.take_entry_room.new.owners) = c.take_entry_room.ensures.after done (length c.step-reply.new.self.calls) live in
    let n : length c.take_entry_room.new.journal.items ≡ length items = ap length c.take_entry_room.ensures.items in
    omega (arith, room, n, c.take_entry_room.new.journal.ok.0)

pub push_reserved-requires-2 : goal.push_reserved-requires-2
push_reserved-requires-2 g c =
    let r : Receipt g.row.K.Denot = record { place = 0; entry = c.in-Some-preview_entry.given } in
    let room = (c.in-Some-take_receipt_room.ensures.after 0).room in
    let m = length-append c.pass.inside.receipts.items (record { place = 0; entry = c.in-Some-preview_entry.given } ∷ []) in
    let n : length c.take_receipt_room.new.receipts.items ≡ length c.pass.inside.receipts.items = ap length c.take_receipt_room.ensures.items in
    omega (arith, room, m, n, c.take_receipt_room.new.receipts.ok.0)

pub invariant_of-self-2 : goal.invariant_of-self-2
invariant_of-self-2 g c =
    let policy = policy_of g.K.SigningCredential.valid g.K.SigningCredential.valid_at g.D.DeadlineRule.deadline in
    let items = c.self.inside.journal.items in
    let entries = c.self.invariant.past ++ items in
    let legal = c.step-reply.ensures.step.expected entries c.self.invariant.represents in
    let memory : is_out_of_memory c.step-reply.result ≡ false = sym c.is_out_of_memory.ensures ∙ c.if-is_out_of_memory.false in
    let kept : c.in-Some.kept ≡ record { event = c.args.event.now; reply = c.step-reply.result } = kept-is policy (setup_of c.self.inside.desk) (committed_entries entries) c.args.event.now c.step-reply.result c.in-Some.kept legal memory c.in-Some.ensures.event (c.in-Some.ensures.expected entries c.self.invariant.represents) in
    let same : c.in-Some.kept.reply ≡ c.step-reply.result = ap (λ (x : Entry g.row.K.Denot). x.reply) kept in
    let done : IsTrue c.take_entry_room.result = search rules in
    let live : LiveAfter c.in-Some.kept.reply c.live-live.result (length c.step-reply.new.self.calls) =
    subst (λ (r : Reply g.row.K.Denot). LiveAfter r c.live-live.result (length c.step-reply.new.self.calls)) (sym same) (subst (λ (n : ℕ). LiveAfter c.step-reply.result n (length c.step-reply.new.self.calls)) (sym c.live-live.ensures) c.step-reply.ensures.live) in
    let room : length items + 1 + length c.step-reply.new.self.calls ≤ min (vec_capacity c.take_entry_room.new.journal) (vec_capacity c.take_entry_room.new.owners) = c.take_entry_room.ensures.after done (length c.step-reply.new.self.calls) live in
    let listed : c.push_reserved.new.self.items ≡ items ++ record { event = c.args.event.now; reply = c.step-reply.result } ∷ [] =
    c.push_reserved.ensures.items ∙ ap (λ (xs : List (Entry g.row.K.Denot)). xs ++ c.in-Some.kept ∷ []) c.take_entry_room.ensures.items ∙ ap (λ (x : Entry g.row.K.Denot). items ++ x ∷ []) kept in
    let m = length-append items (record { event = c.args.event.now; reply = c.step-reply.result } ∷ []) in
    let n : length c.push_reserved.new.self.items ≡ length (items ++ record { event = c.args.event.now; reply = c.step-reply.result } ∷ []) = ap length listed in
    record {
      past = c.self.invariant.past;
      represents = subst (λ (js : List (Entry g.row.K.Denot)). Represents policy c.step-reply.new.self (c.self.invariant.past ++ js)) (sym listed)
          (steps-behind policy c.args.event.now c.self.inside.desk c.step-reply.result c.step-reply.new.self items c.step-reply.ensures.step c.self.invariant.past c.self.invariant.represents);
      room = omega (arith, room, m, n, c.push_reserved.ensures.capacity);
    }

pub returns-clause-follows : goal.returns-clause-follows
returns-clause-follows g c =
    let policy = policy_of g.K.SigningCredential.valid g.K.SigningCredential.valid_at g.D.DeadlineRule.deadline in
    let items = c.self.inside.journal.items in
    let entries = c.self.invariant.past ++ items in
    let legal = c.step-reply.ensures.step.expected entries c.self.invariant.represents in
    let memory : is_out_of_memory c.step-reply.result ≡ false = sym c.is_out_of_memory.ensures ∙ c.if-is_out_of_memory.false in
    let kept : c.in-Some.kept ≡ record { event = c.args.event.now; reply = c.step-reply.result } = kept-is policy (setup_of c.self.inside.desk) (committed_entries entries) c.args.event.now c.step-reply.result c.in-Some.kept legal memory c.in-Some.ensures.event (c.in-Some.ensures.expected entries c.self.invariant.represents) in
    let listed : c.push_reserved.new.self.items ≡ items ++ record { event = c.args.event.now; reply = c.step-reply.result } ∷ [] =
    c.push_reserved.ensures.items ∙ ap (λ (xs : List (Entry g.row.K.Denot)). xs ++ c.in-Some.kept ∷ []) c.take_entry_room.ensures.items ∙ ap (λ (x : Entry g.row.K.Denot). items ++ x ∷ []) kept in
    λ before stood.
    subst (λ (js : List (Entry g.row.K.Denot)). Represents policy c.step-reply.new.self (before ++ js)) (sym listed)
    (steps-behind policy c.args.event.now c.self.inside.desk c.step-reply.result c.step-reply.new.self items c.step-reply.ensures.step before
    (subst (λ (b : BookState g.row.K.Denot g.row.D.Denot). Represents policy b.desk (before ++ b.journal)) (sym c.self.view_is) stood))

pub returns-clause-journal : goal.returns-clause-journal
returns-clause-journal g c =
    let policy = policy_of g.K.SigningCredential.valid g.K.SigningCredential.valid_at g.D.DeadlineRule.deadline in
    let items = c.self.inside.journal.items in
    let entries = c.self.invariant.past ++ items in
    let legal = c.step-reply.ensures.step.expected entries c.self.invariant.represents in
    let memory : is_out_of_memory c.step-reply.result ≡ false = sym c.is_out_of_memory.ensures ∙ c.if-is_out_of_memory.false in
    let kept : c.in-Some.kept ≡ record { event = c.args.event.now; reply = c.step-reply.result } = kept-is policy (setup_of c.self.inside.desk) (committed_entries entries) c.args.event.now c.step-reply.result c.in-Some.kept legal memory c.in-Some.ensures.event (c.in-Some.ensures.expected entries c.self.invariant.represents) in
    let same : c.in-Some.kept.reply ≡ c.step-reply.result = ap (λ (x : Entry g.row.K.Denot). x.reply) kept in
    let listed : c.push_reserved.new.self.items ≡ items ++ record { event = c.args.event.now; reply = c.step-reply.result } ∷ [] =
    c.push_reserved.ensures.items ∙ ap (λ (xs : List (Entry g.row.K.Denot)). xs ++ c.in-Some.kept ∷ []) c.take_entry_room.ensures.items ∙ ap (λ (x : Entry g.row.K.Denot). items ++ x ∷ []) kept in
    λ _. listed ∙ ap (λ (b : BookState g.row.K.Denot g.row.D.Denot). b.journal ++ record { event = c.args.event.now; reply = c.step-reply.result } ∷ []) c.self.view_is

pub returns-clause-receipt : goal.returns-clause-receipt
returns-clause-receipt g c =
    let policy = policy_of g.K.SigningCredential.valid g.K.SigningCredential.valid_at g.D.DeadlineRule.deadline in
    let items = c.self.inside.journal.items in
    let entries = c.self.invariant.past ++ items in
    let legal = c.step-reply.ensures.step.expected entries c.self.invariant.represents in
    let memory : is_out_of_memory c.step-reply.result ≡ false = sym c.is_out_of_memory.ensures ∙ c.if-is_out_of_memory.false in
    let kept : c.in-Some-preview_entry.given ≡ record { event = c.args.event.now; reply = c.step-reply.result } = kept-is policy (setup_of c.self.inside.desk) (committed_entries entries) c.args.event.now c.step-reply.result c.in-Some-preview_entry.given legal memory c.in-Some-preview_entry.ensures.event (c.in-Some-preview_entry.ensures.expected entries c.self.invariant.represents) in
    let same : c.in-Some-preview_entry.given.reply ≡ c.step-reply.result = ap (λ (x : Entry g.row.K.Denot). x.reply) kept in
    let place : c.len-place.result ≡ length c.args.self.now.journal = search rules in
    λ _.
    c.push_reserved-2.ensures.items
    ∙ ap (λ (xs : List (Receipt g.row.K.Denot)). xs ++ record { place = c.len-place.result; entry = c.in-Some-preview_entry.given } ∷ []) (c.take_receipt_room.ensures.items ∙ c.pass.view_is)
    ∙ (λ i. c.args.pass.now ++ (let r : Receipt g.row.K.Denot = record { place = place i; entry = kept i } in r) ∷ [])

pub returns-clause-kind : goal.returns-clause-kind
returns-clause-kind g c =
    let policy = policy_of g.K.SigningCredential.valid g.K.SigningCredential.valid_at g.D.DeadlineRule.deadline in
    let items = c.self.inside.journal.items in
    let entries = c.self.invariant.past ++ items in
    let legal = c.step-reply.ensures.step.expected entries c.self.invariant.represents in
    let memory : is_out_of_memory c.step-reply.result ≡ false = sym c.is_out_of_memory.ensures ∙ c.if-is_out_of_memory.false in
    let kept : c.in-Some.kept ≡ record { event = c.args.event.now; reply = c.step-reply.result } = kept-is policy (setup_of c.self.inside.desk) (committed_entries entries) c.args.event.now c.step-reply.result c.in-Some.kept legal memory c.in-Some.ensures.event (c.in-Some.ensures.expected entries c.self.invariant.represents) in
    let same : c.in-Some.kept.reply ≡ c.step-reply.result = ap (λ (x : Entry g.row.K.Denot). x.reply) kept in
    subst (λ (r : Reply g.row.K.Denot). IsTrue (is_reply_to c.args.event.now r)) same c.in-Some.ensures.kind

pub returns-in_default-preview_entry-clause-cancel : goal.returns-in_default-preview_entry-clause-cancel
returns-in_default-preview_entry-clause-cancel g c = λ call is live opened same.
    let some = c.in_default-preview_entry.ensures.cancel (c.self.invariant.past ++ c.self.inside.journal.items) c.self.invariant.represents call is in
    absurd (cc)

pub returns-then-not-take_entry_room-clause-cancel : goal.returns-then-not-take_entry_room-clause-cancel
returns-then-not-take_entry_room-clause-cancel g c = λ call is live opened same.
    let policy = policy_of g.K.SigningCredential.valid g.K.SigningCredential.valid_at g.D.DeadlineRule.deadline in
    let there : IsSome (find_view c.self.inside.desk call) = subst (λ (b : BookState g.row.K.Denot g.row.D.Denot). IsSome (find_view b.desk call)) (sym c.self.view_is) live in
    let over : is_cancelled c.in-Some.kept.reply ≡ true = live-cancelled policy c.self.inside.desk c.args.event.now call c.in-Some.kept.reply is there c.in-Some.ensures.kind c.in-Some.ensures.causes in
    let some = c.take_entry_room.ensures.cancel over in
    absurd (search rules)

pub returns-in_default-take_receipt_room-clause-cancel : goal.returns-in_default-take_receipt_room-clause-cancel
returns-in_default-take_receipt_room-clause-cancel g c = λ call is live opened same.
    let policy = policy_of g.K.SigningCredential.valid g.K.SigningCredential.valid_at g.D.DeadlineRule.deadline in
    let there : IsSome (find_view c.self.inside.desk call) = subst (λ (b : BookState g.row.K.Denot g.row.D.Denot). IsSome (find_view b.desk call)) (sym c.self.view_is) live in
    let over : is_cancelled c.in-Some-preview_entry.given.reply ≡ true = live-cancelled policy c.self.inside.desk c.args.event.now call c.in-Some-preview_entry.given.reply is there c.in-Some-preview_entry.ensures.kind c.in-Some-preview_entry.ensures.causes in
    let named : call_of c.in-Some-preview_entry.given.event ≡ call = ap (λ (e : Event g.row.K.Denot). call_of e) (c.in-Some-preview_entry.ensures.event ∙ is) in
    let open_here : is_open (call_of c.in-Some-preview_entry.given.event) c.pass.inside.receipts.items ≡ true = ap (λ (q : CallId). is_open q c.pass.inside.receipts.items) named ∙ ap (is_open call) c.pass.view_is ∙ opened in
    let some = c.in_default-take_receipt_room.ensures.cancel over open_here in
    absurd (cc)

pub returns-then-is_out_of_memory-clause-cancel : goal.returns-then-is_out_of_memory-clause-cancel
returns-then-is_out_of_memory-clause-cancel g c = λ call is live opened same.
    let policy = policy_of g.K.SigningCredential.valid g.K.SigningCredential.valid_at g.D.DeadlineRule.deadline in
    let lost : c.step-reply.result ≡ OutOfMemory = out_of_memory-is c.step-reply.result (sym c.is_out_of_memory.ensures ∙ c.if-is_out_of_memory.true) in
    let entries = c.self.invariant.past ++ c.self.inside.journal.items in
    let legal = c.step-reply.ensures.step.expected entries c.self.invariant.represents in
    cancel-in_memory policy (setup_of c.self.inside.desk) (committed_entries entries) c.args.event.now call is
    (subst (λ (r : Reply g.row.K.Denot). IsLegalEntry policy (setup_of c.self.inside.desk) (committed_entries entries) (record { event = c.args.event.now; reply = r })) lost legal)

pub returns-clause-cancel : goal.returns-clause-cancel
returns-clause-cancel g c = λ call is live opened same.
    absurd (in-memory (policy_of g.K.SigningCredential.valid g.K.SigningCredential.valid_at g.D.DeadlineRule.deadline) c.step-reply.result (sym c.is_out_of_memory.ensures ∙ c.if-is_out_of_memory.false) same)

pub returns-clause-setup : goal.returns-clause-setup
returns-clause-setup g c = c.step-reply.ensures.step.setup ∙ ap (λ (b : BookState g.row.K.Denot g.row.D.Denot). setup_of b.desk) c.self.view_is

pub returns-clause-book_unchanged : goal.returns-clause-book_unchanged
returns-clause-book_unchanged g c = λ same.
    absurd (in-memory (policy_of g.K.SigningCredential.valid g.K.SigningCredential.valid_at g.D.DeadlineRule.deadline) c.step-reply.result (sym c.is_out_of_memory.ensures ∙ c.if-is_out_of_memory.false) same)

pub returns-clause-pass_unchanged : goal.returns-clause-pass_unchanged
returns-clause-pass_unchanged g c = λ same.
    absurd (in-memory (policy_of g.K.SigningCredential.valid g.K.SigningCredential.valid_at g.D.DeadlineRule.deadline) c.step-reply.result (sym c.is_out_of_memory.ensures ∙ c.if-is_out_of_memory.false) same)

pub take_entry_room-requires : goal.take_entry_room-requires
take_entry_room-requires g c =
    subst (λ (n : ℕ). length c.self.inside.journal.items + n ≤ min (vec_capacity c.self.inside.journal) (vec_capacity c.self.inside.owners)) (sym c.live-live.ensures) c.self.invariant.room
