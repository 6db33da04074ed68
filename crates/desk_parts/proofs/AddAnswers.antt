-- What an adding call answers, where nothing refuses what is added: the new number, or out of memory.
use Rattle.std.proofs.Common.{◌≡◌, ◌<◌, ℕ, Bool, true, false, Option, Some, None, Result, Ok, Err, OnOk, OnErr, IfErr, nat_lt, length, if◌then◌else◌, refl, sym, subst}
use Rattle.desk_parts.specs.Adding.{AddAnswer, AddAnswerBack, late_refusal, handle_refusal}
use Rattle.desk_parts.specs.Tables.{DeskTables}
use Rattle.desk_parts.specs.declared.adding.AddError.{AddError}
use Rattle.desk_parts.specs.declared.adding.AddRefused.{AddRefused}
use Rattle.desk_parts.specs.declared.adding.AddError.TheVariants.{Late, NoCache, NoRule}
use Rattle.desk_parts.proofs.LoadAsks.{below_true}

module _ {K D Q H : Type 0} (desk : DeskTables K D Q H) (number : ℕ) (answer : Result ℕ AddError) where
  -- before the first begin nothing is added too late
  in_time : (why : Option AddError) → desk.started ≡ false
      → AddAnswer (if desk.started then Some Late else why) number answer → AddAnswer why number answer
  in_time why unstarted h =
      let P : Bool → Type 0 = λ b. AddAnswer (if b then Some Late else why) number answer in subst P unstarted h

  -- so nothing refuses a cache
  pub cache-allowed : desk.started ≡ false → AddAnswer (late_refusal desk) number answer
      → AddAnswer None number answer
  cache-allowed unstarted h = in_time None unstarted h

  -- nor a handle whose cache and whose rule are there
  pub handle-allowed : (cache rule : ℕ) → desk.started ≡ false → nat_lt cache (length desk.loaders) ≡ true
      → nat_lt rule (length desk.rules) ≡ true → AddAnswer (handle_refusal desk cache rule) number answer
      → AddAnswer None number answer
  handle-allowed cache rule unstarted there ruled h =
      let timely = in_time (if nat_lt cache (length desk.loaders) then (if nat_lt rule (length desk.rules) then None else Some (NoRule rule)) else Some (NoCache cache)) unstarted h in
      let P : Bool → Type 0 = λ b. AddAnswer (if b then (if nat_lt rule (length desk.rules) then None else Some (NoRule rule)) else Some (NoCache cache)) number answer in
      let Q : Bool → Type 0 = λ b. AddAnswer (if b then None else Some (NoRule rule)) number answer in
      subst Q ruled (subst P there timely)

-- of two facts about an error the second, whatever the error
pub on_err-second : {T E : Type 0} (A : E → Type 0) (B : Type 0) (answer : Result T E)
    → IfErr answer (λ e. A e × B)
    → OnErr answer B
on_err-second A B (Ok n) h = tt
on_err-second A B (Err e) h = h.1

-- a state to which something was added, by what holds where it was added: new is more then, and else old
module _ {S T E A : Type 0} (Good : S → Type 0) (old more new : S) (answer : Result T E)
    (known : OnOk answer A) (stands : A → Good more) where
  pub good-where_added : OnOk answer (new ≡ more) → OnOk answer (Good new)
  good-where_added added = by_answer answer known added
    where
      by_answer : (answer : Result T E) → OnOk answer A → OnOk answer (new ≡ more) → OnOk answer (Good new)
      by_answer (Ok n) a added = subst Good (sym added) (stands a)
      by_answer (Err e) a added = tt

  pub good-after : Good old → OnOk answer (new ≡ more) → OnErr answer (new ≡ old) → Good new
  good-after stood added kept = by_answer answer known added kept
    where
      by_answer : (answer : Result T E) → OnOk answer A → OnOk answer (new ≡ more) → OnErr answer (new ≡ old)
          → Good new
      by_answer (Ok n) a added kept = subst Good (sym added) (stands a)
      by_answer (Err e) a added kept = subst Good (sym kept) stood

module _ {K D Q H : Type 0} (old : DeskTables K D Q H) where
  -- what was added was added before the first begin
  pub unbegun-where_added : (number : ℕ) (answer : Result ℕ AddError)
      → AddAnswer (late_refusal old) number answer
      → OnOk answer (old.started ≡ false)
  unbegun-where_added number (Err e) h = tt
  unbegun-where_added number (Ok n) h = by_flag old.started refl h
    where
      by_flag : (b : Bool) → old.started ≡ b → AddAnswer (if b then Some Late else None) number (Ok n)
          → old.started ≡ false
      by_flag true same h = absurd h
      by_flag false same h = same

  -- also where a refusal hands something back
  pub unbegun-where_kept : {T : Type 0} (number : ℕ) (answer : Result ℕ (AddRefused T))
      → AddAnswerBack (late_refusal old) number answer → OnOk answer (old.started ≡ false)
  unbegun-where_kept number (Ok n) h = unbegun-where_added number (Ok n) h
  unbegun-where_kept number (Err refused) h = tt

  -- and a handle on a cache and with a rule that are there
  pub placed-where_added : (cache rule number : ℕ) (answer : Result ℕ AddError)
      → AddAnswer (handle_refusal old cache rule) number answer
      → OnOk answer ((old.started ≡ false) × ((cache < length old.loaders) × (rule < length old.rules)))
  placed-where_added cache rule number (Err e) h = tt
  placed-where_added cache rule number (Ok n) h =
      by_tests old.started (nat_lt cache (length old.loaders)) (nat_lt rule (length old.rules)) refl refl refl h
    where
      by_tests : (late there ruled : Bool) → old.started ≡ late → nat_lt cache (length old.loaders) ≡ there
          → nat_lt rule (length old.rules) ≡ ruled
          → AddAnswer (if late then Some Late
          else if there then (if ruled then None else Some (NoRule rule)) else Some (NoCache cache)) number (Ok n)
          → (old.started ≡ false) × ((cache < length old.loaders) × (rule < length old.rules))
      by_tests true there ruled l c r h = absurd h
      by_tests false false ruled l c r h = absurd h
      by_tests false true false l c r h = absurd h
      by_tests false true true l c r h = (l, (below_true cache (length old.loaders) c, below_true rule (length old.rules) r))
