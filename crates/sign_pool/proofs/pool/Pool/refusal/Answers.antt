use Rattle.std.proofs.Common.{◌≡◌, ℕ, ◌<◌, ◌≤◌, Bool, true, false, List, length, get_or, Some, slice_get, refl, sym, subst}
use Rattle.std.proofs.Math.Dec.{ltb}
use Rattle.std.proofs.lemmas.Bool.{ltb-true, ltb-false}
use Rattle.std.proofs.lemmas.Option.{slice_get_read}
use Rattle.sign_pool.proofs.pool.Pool.refusal.Goals as goal

-- what a mark that was read says of its handle
mark-read : (taken read : List Bool) (handle : ℕ) (mark : Bool) → read ≡ taken
    → true ≡ ltb handle (length read) → mark ≡ get_or read handle mark
    → (handle < length taken) × (slice_get taken handle ≡ Some mark)
mark-read taken read handle mark same within is =
    let below : handle < length read = ltb-true handle (length read) (sym within) in
    subst (λ (marks : List Bool). (handle < length marks) × (slice_get marks handle ≡ Some mark)) same (below, slice_get_read read (length read) handle mark refl below is)

-- a handle without a mark
past-marks : (taken read : List Bool) (handle : ℕ) → read ≡ taken → false ≡ ltb handle (length read)
    → length taken ≤ handle
past-marks taken read handle same past = subst (λ (marks : List Bool). length marks ≤ handle) same (ltb-false handle (length read) (sym past))

pub returns : goal.returns
returns g c =
    let read = mark-read c.args.self.now.taken.items c.deref.result.now c.args.handle c.in-Some.taken.now c.deref.ensures.value c.in-Some.ensures.lookup.0 c.in-Some.ensures.lookup.1 in
    (read.0, subst (λ (mark : Bool). slice_get c.args.self.now.taken.items c.args.handle ≡ Some mark) c.if-taken.false read.1, c.if-self-ge-MOST_WORKERS.false)

pub returns-in_default : goal.returns-in_default
returns-in_default g c = (refl, past-marks c.args.self.now.taken.items c.deref.result.now c.args.handle c.deref.ensures.value c.in_default.ensures.lookup.0)

pub returns-then-taken : goal.returns-then-taken
returns-then-taken g c =
    let read = mark-read c.args.self.now.taken.items c.deref.result.now c.args.handle c.in-Some.taken.now c.deref.ensures.value c.in-Some.ensures.lookup.0 c.in-Some.ensures.lookup.1 in
    (refl, read.0, subst (λ (mark : Bool). slice_get c.args.self.now.taken.items c.args.handle ≡ Some mark) c.if-taken.true read.1)

pub returns-then-self-ge-MOST_WORKERS : goal.returns-then-self-ge-MOST_WORKERS
returns-then-self-ge-MOST_WORKERS g c =
    let read = mark-read c.args.self.now.taken.items c.deref.result.now c.args.handle c.in-Some.taken.now c.deref.ensures.value c.in-Some.ensures.lookup.0 c.in-Some.ensures.lookup.1 in
    (read.0, subst (λ (mark : Bool). slice_get c.args.self.now.taken.items c.args.handle ≡ Some mark) c.if-taken.false read.1)
