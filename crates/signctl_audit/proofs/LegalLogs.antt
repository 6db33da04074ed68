-- The claims of a log that was read are a legal transcript of its events.
use Rattle.std.proofs.Common.{◌≡◌, ◌+◌, ℕ, Bool, true, false, ◌&&◌, ◌||◌, if◌then◌else◌, Result, Ok, Err}
use Rattle.std.proofs.Common.{List, [], ◌∷◌, ◌++◌, length, take, map, flat_map}
use Rattle.std.proofs.Common.{Option, Some, None}
use Rattle.std.proofs.Common.{option_map, refl, sym, ap, ◌∙◌, subst, inl, inr, arith}
use Rattle.std.specs.Str.{bytes_eq}
use Rattle.std.specs.List.{cons_option}
use Rattle.std.specs.Result.{result_map_both}
use Rattle.std.proofs.lemmas.Bool.{cases_Bool}
use Rattle.std.proofs.lemmas.List.{append-nil, append_assoc, length-append, map-append, take_all}
use Rattle.std.proofs.lemmas.List.Elements.{filter_map-append}
use Rattle.std.proofs.lemmas.Grind.{flat_map-append}
use Rattle.std.proofs.Math.Seq.{take-append_seam}
use Rattle.sign_base.specs.EachAfter.{each_after}
use Rattle.sequential_signer.specs.Setup.{Setup}
use Rattle.sequential_signer.specs.Transcript.{committed_entries}
use Rattle.sequential_signer.specs.Legal.{IsLegal, IsLegalEntry}
use Rattle.sequential_signer.specs.LawsOfReplies.{events_of}
use Rattle.sequential_signer.specs.declared.event.Entry.{Entry}
use Rattle.sequential_signer.specs.declared.event.Event.{Event}
use Rattle.sequential_signer.proofs.Lists.{and_false, each_after-more}
use Rattle.sequential_signer.proofs.Run.{legal-more}
use Rattle.signctl_driver.specs.Command.{BadLine, blamed}
use Rattle.signctl_driver.specs.Lines.{End, lines_of, is_too_long}
use Rattle.signctl_driver.specs.LinesRead.{LinesRead, too_long_line, reading_of, read_on, read_from, lines_read}
use Rattle.line_words.proofs.ReadingSteps.{same_word}
use Rattle.signctl_format.specs.declared.credential.ScriptCredential.{ScriptCredential}
use Rattle.signctl_format.specs.declared.credential.ScriptRule.{ScriptRule}
use Rattle.signctl_format.specs.declared.item.Item.TheVariants as item
use Rattle.signctl_format.specs.Lines.{reply_line}
use Rattle.signctl_format.specs.Policy.{script_policy}
use Rattle.signctl_format.specs.ScriptEvents.{ScriptItem}
use Rattle.signctl_format.specs.ScriptSetup.{setup_in, events_in}
use Rattle.signctl_format.proofs.SetupIn.{setup_in-silent, setup_in-event, events_in-more}
use Rattle.signctl_audit.specs.Account.{Account, reply_due, subject_of, subject_in, is_missed, claimed_entry}
use Rattle.signctl_audit.specs.Account.{entries_with, with_item, with_claim, with_line, account_of}
use Rattle.signctl_audit.specs.AuditCauses.{due_line}
use Rattle.signctl_audit.specs.AuditReading.{may_miss, due_of, audit_item_error, subject_error, claim_error}
use Rattle.signctl_audit.specs.AuditReading.{audit_reading}
use Rattle.signctl_audit.specs.AuditOutput.{audit_command, closing_by}
use Rattle.signctl_audit.specs.ClaimReading.{claim_text, claim_of}
use Rattle.signctl_audit.specs.LegalLogs.{waiting_event, made_line, made_lines, claims_in, IsLegalLog}
use Rattle.signctl_audit.specs.LegalLogs.{IsLegalRead, AcceptedClaimsAreLegal, IsRunLog, LegalLogsAreRuns}
use Rattle.signctl_audit.specs.declared.audit_error.AuditError.{AuditError}
use Rattle.signctl_audit.specs.declared.audit_line.AuditLine.{AuditLine}
use Rattle.signctl_audit.specs.declared.audit_line.AuditLine.TheVariants.{VersionTwo, Says, Claims}
use Rattle.signctl_audit.specs.declared.audit_line.Subject.{Subject}
use Rattle.signctl_audit.specs.declared.audit_line.Subject.TheVariants.{Cache, Handle, Event as Happened}
use Rattle.signctl_audit.specs.declared.audit_line.Unclaimed.{Unclaimed}
use Rattle.signctl_audit.specs.declared.claimed_reply.ClaimedReply.{ClaimedReply}
use Rattle.signctl_audit.proofs.Accounts.{account-more}
use Rattle.signctl_audit.proofs.LineGood.{version-read, says-read, claim-read}
use Rattle.signctl_audit.proofs.NextLine.{cache-first, handle-first, none-wanted}
use Rattle.signctl_audit.proofs.RightClaims.{missed-text, no_error, missed-allocates}

-- ---- the claims among lines, and what is printed of items

no_claim : (raw : List (List ℕ)) (line : List ℕ) → claim_text line ≡ None
    → claims_in (raw ++ line ∷ []) ≡ claims_in raw
no_claim raw line none =
    filter_map-append claim_text raw (line ∷ [])
    ∙ ap (λ (o : Option (List ℕ)). claims_in raw ++ cons_option o []) none
    ∙ append-nil (claims_in raw)

one_claim : (raw : List (List ℕ)) (line text : List ℕ) → claim_text line ≡ Some text
    → claims_in (raw ++ line ∷ []) ≡ claims_in raw ++ text ∷ []
one_claim raw line text some =
    filter_map-append claim_text raw (line ∷ [])
    ∙ ap (λ (o : Option (List ℕ)). claims_in raw ++ cons_option o []) some

made-more : (items : List ScriptItem) (x : ScriptItem)
    → made_lines (items ++ x ∷ []) ≡ made_lines items ++ made_line (subject_of items x)
made-more items x =
    ap (flat_map made) (each_after-more [] items x)
    ∙ flat_map-append made (each_after [] items) ((items, x) ∷ [])
    ∙ ap (λ (v : List (List ℕ)). made_lines items ++ v) (append-nil (made_line (subject_of items x)))
  where
    made : List ScriptItem × ScriptItem → List (List ℕ)
    made p = made_line (subject_of p.0 p.1)

-- what is printed of the replies of entries
abbrev printed : List (Entry ScriptCredential) → List (List ℕ)
printed entries = map (λ (e : Entry ScriptCredential). reply_line e.reply) entries

-- ---- lines of a script

-- before the first line
no_log : IsLegalLog [] (account_of [])
unfolding account_of setup_in events_in IsLegal
no_log = record { legal = tt; events = refl; claims = refl }

-- where there was no event yet there is no entry
nothing_claimed : (entries : List (Entry ScriptCredential)) (rest : List (Event ScriptCredential))
    → events_of entries ++ rest ≡ [] → entries ≡ []
nothing_claimed [] rest h = refl
nothing_claimed (e ∷ more) rest h = absurd cc

module _ (raw : List (List ℕ)) (a : Account) (h : IsLegalLog raw a)
    (line : List ℕ) (says : claim_text line ≡ None) where
  silent-log : IsLegalLog (raw ++ line ∷ []) (with_item a item.Silent)
  silent-log =
      let P : Setup ScriptRule → Type 0 = λ s. IsLegal script_policy s a.entries in
      let same : made_lines (a.items ++ item.Silent ∷ []) ≡ made_lines a.items = made-more a.items item.Silent ∙ append-nil (made_lines a.items) in record {
        legal = subst P (sym (setup_in-silent a.items)) h.legal;
        events = h.events ∙ sym (events_in-more a.items item.Silent ∙ append-nil (events_in a.items));
        claims =
            ap (λ (v : List (List ℕ)). v ++ made_line (subject_in a)) (no_claim raw line says)
            ∙ h.claims
            ∙ ap (λ (v : List (List ℕ)). v ++ printed a.entries) (sym same);
      }

  -- where no line wants its claim, all claims were made
  all_claimed : a.unclaimed ≡ None → claims_in raw ≡ made_lines a.items ++ printed a.entries
  all_claimed none =
      sym (append-nil (claims_in raw))
      ∙ ap (λ (u : Option Unclaimed). claims_in raw ++ made_line (option_map (λ v. v.subject) u)) (sym none)
      ∙ h.claims

  -- a line that sets the signer up
  setup-log : (x : ScriptItem) → events_in a.items ≡ []
      → events_in (a.items ++ x ∷ []) ≡ events_in a.items ++ []
      → waiting_event (subject_in (with_item a x)) ≡ [] → a.unclaimed ≡ None
      → made_line (subject_in (with_item a x)) ≡ made_line (subject_of a.items x)
      → IsLegalLog (raw ++ line ∷ []) (with_item a x)
  unfolding IsLegal
  setup-log x none same waits unclaimed makes =
      let made = made_line (subject_of a.items x) in
      let empty : a.entries ≡ [] = nothing_claimed a.entries (waiting_event (subject_in a)) (h.events ∙ none) in
      let P : List (Entry ScriptCredential) → Type 0 = λ entries. IsLegal script_policy (setup_in (a.items ++ x ∷ [])) entries in
      let before : claims_in raw ≡ made_lines a.items =
      all_claimed unclaimed ∙ ap (λ (entries : List (Entry ScriptCredential)). made_lines a.items ++ printed entries) empty ∙ append-nil (made_lines a.items) in record {
        legal = subst P (sym empty) tt;
        events =
            ap (λ (entries : List (Entry ScriptCredential)). events_of entries ++ waiting_event (subject_in (with_item a x))) empty
            ∙ waits
            ∙ sym (same ∙ append-nil (events_in a.items) ∙ none);
        claims =
            ap (λ (v : List (List ℕ)). v ++ made_line (subject_in (with_item a x))) (no_claim raw line says ∙ before)
            ∙ ap (λ (v : List (List ℕ)). made_lines a.items ++ v) makes
            ∙ sym (made-more a.items x)
            ∙ sym (append-nil (made_lines (a.items ++ x ∷ [])))
            ∙ ap (λ (entries : List (Entry ScriptCredential)). made_lines (a.items ++ x ∷ []) ++ printed entries) (sym empty);
      }

  -- an event waits for its claim, and no other one does
  event-log : (event : Event ScriptCredential) → a.unclaimed ≡ None
      → IsLegalLog (raw ++ line ∷ []) (with_item a (item.Event event))
  event-log event none =
      let P : Setup ScriptRule → Type 0 = λ s. IsLegal script_policy s a.entries in
      let claimed : events_of a.entries ≡ events_in a.items =
      sym (append-nil (events_of a.entries))
      ∙ ap (λ (u : Option Unclaimed). events_of a.entries ++ waiting_event (option_map (λ v. v.subject) u)) (sym none)
      ∙ h.events in
      let same : made_lines (a.items ++ item.Event event ∷ []) ≡ made_lines a.items = made-more a.items (item.Event event) ∙ append-nil (made_lines a.items) in record {
        legal = subst P (sym (setup_in-event a.items event)) h.legal;
        events = ap (λ (v : List (Event ScriptCredential)). v ++ event ∷ []) claimed ∙ sym (events_in-more a.items (item.Event event));
        claims =
            append-nil (claims_in (raw ++ line ∷ []))
            ∙ no_claim raw line says
            ∙ all_claimed none
            ∙ ap (λ (v : List (List ℕ)). v ++ printed a.entries) (sym same);
      }

  says-log : (x : ScriptItem) → audit_item_error a x ≡ None → IsLegalLog (raw ++ line ∷ []) (with_item a x)
  says-log item.Silent good = silent-log
  says-log (item.Cache loader) good = setup-log (item.Cache loader) (cache-first a loader good) (events_in-more a.items (item.Cache loader)) refl (none-wanted a (item.Cache loader) _ refl good) refl
  says-log (item.Handle cache rule) good = setup-log (item.Handle cache rule) (handle-first a cache rule good) (events_in-more a.items (item.Handle cache rule)) refl (none-wanted a (item.Handle cache rule) _ refl good) refl
  says-log (item.Event event) good = event-log event (none-wanted a (item.Event event) (Happened event) refl good)

-- ---- claims

either_test : (a b c : Bool) → ((a && b) || c) ≡ true → (a && b) ≡ false → c ≡ true
either_test true true c h none = absurd cc
either_test true false c h none = h
either_test false b c h none = h

-- a right claim of a cache or a handle is what is printed of it
made-printed : (a : Account) (about : Subject) (claimed : ClaimedReply) (text : List ℕ)
    → may_miss a about ≡ false → subject_error a about claimed text ≡ None
    → text ≡ due_line (due_of a about)
made-printed a about claimed text made good =
    same_word _ _ (either_test (is_missed claimed) (may_miss a about) (bytes_eq text (due_line (due_of a about))) (no_error _ _ good) (ap (λ b. is_missed claimed && b) made ∙ and_false (is_missed claimed)))

module _ (a : Account) (claimed : ClaimedReply) (text : List ℕ) (read : claim_of text ≡ Some claimed) where
  -- an event of which it is right to claim that an allocation failed may run out of memory
  missed-may : (event : Event ScriptCredential) → subject_error a (Happened event) claimed text ≡ None
      → is_missed claimed ≡ true → may_miss a (Happened event) ≡ true
  missed-may event good missed = elim (cases_Bool (may_miss a (Happened event))) [
    | inl may ↦ may
    | inr may_not ↦ absurd (missed-allocates a event claimed text read good missed may_not)
  ]

  -- a right claim of an event stands for a legal entry, and is what is printed of its reply
  claimed-right : (event : Event ScriptCredential) → subject_error a (Happened event) claimed text ≡ None
      → IsLegalEntry script_policy (setup_in a.items) (committed_entries a.entries)
      (claimed_entry a event claimed)
      × (text ≡ reply_line (claimed_entry a event claimed).reply)
  claimed-right event good = by_claim (is_missed claimed) refl
    where
      by_claim : (b : Bool) → is_missed claimed ≡ b
          → IsLegalEntry script_policy (setup_in a.items) (committed_entries a.entries)
          (claimed_entry a event claimed)
          × (text ≡ reply_line (claimed_entry a event claimed).reply)
      by_claim true m = rw m (inr (refl, missed-may event good m), missed-text text claimed read m)
      by_claim false m =
          let due : text ≡ reply_line (reply_due a event) = same_word _ _ (either_test (is_missed claimed) (may_miss a (Happened event)) (bytes_eq text (reply_line (reply_due a event))) (no_error _ _ good) (ap (λ b. b && may_miss a (Happened event)) m)) in
          rw m (inl refl, due)

  entries-legal : IsLegal script_policy (setup_in a.items) a.entries → (about : Option Subject)
      → claim_error a about claimed text ≡ None
      → IsLegal script_policy (setup_in a.items) (entries_with a claimed about)
  entries-legal legal None good = absurd cc
  entries-legal legal (Some (Cache n)) good = legal
  entries-legal legal (Some (Handle n)) good = legal
  entries-legal legal (Some (Happened event)) good = legal-more script_policy (setup_in a.items) a.entries (claimed_entry a event claimed) legal (claimed-right event good).0

  entries-events : (about : Option Subject)
      → events_of a.entries ++ waiting_event about ≡ events_in a.items
      → events_of (entries_with a claimed about) ++ [] ≡ events_in a.items
  entries-events None h = h
  entries-events (Some (Cache n)) h = h
  entries-events (Some (Handle n)) h = h
  entries-events (Some (Happened event)) h =
      append-nil (events_of (a.entries ++ claimed_entry a event claimed ∷ []))
      ∙ map-append (λ (e : Entry ScriptCredential). e.event) a.entries (claimed_entry a event claimed ∷ [])
      ∙ h

  -- the text joins the claims before it
  entries-claims : (claims : List (List ℕ)) (about : Option Subject) → claim_error a about claimed text ≡ None
      → claims ++ made_line about ≡ made_lines a.items ++ printed a.entries
      → (claims ++ text ∷ []) ++ [] ≡ made_lines a.items ++ printed (entries_with a claimed about)
  entries-claims claims None good h = absurd cc
  entries-claims claims (Some (Cache n)) good h =
      append-nil (claims ++ text ∷ [])
      ∙ ap (λ (t : List ℕ). claims ++ t ∷ []) (made-printed a (Cache n) claimed text refl good)
      ∙ h
  entries-claims claims (Some (Handle n)) good h =
      append-nil (claims ++ text ∷ [])
      ∙ ap (λ (t : List ℕ). claims ++ t ∷ []) (made-printed a (Handle n) claimed text refl good)
      ∙ h
  entries-claims claims (Some (Happened event)) good h =
      let entry : Entry ScriptCredential = claimed_entry a event claimed in
      append-nil (claims ++ text ∷ [])
      ∙ ap (λ (t : List ℕ). claims ++ t ∷ []) (claimed-right event good).1
      ∙ ap (λ (v : List (List ℕ)). v ++ reply_line entry.reply ∷ []) (sym (append-nil claims) ∙ h)
      ∙ append_assoc (made_lines a.items) (printed a.entries) (reply_line entry.reply ∷ [])
      ∙ ap (λ (v : List (List ℕ)). made_lines a.items ++ v) (sym (map-append (λ (e : Entry ScriptCredential). reply_line e.reply) a.entries (entry ∷ [])))

  claims-log : (raw : List (List ℕ)) (line : List ℕ) → claim_text line ≡ Some text
      → claim_error a (subject_in a) claimed text ≡ None → IsLegalLog raw a
      → IsLegalLog (raw ++ line ∷ []) (with_claim a claimed)
  claims-log raw line says good h = record {
    legal = entries-legal h.legal (subject_in a) good;
    events = entries-events (subject_in a) h.events;
    claims =
        ap (λ (v : List (List ℕ)). v ++ []) (one_claim raw line text says)
        ∙ entries-claims (claims_in raw) (subject_in a) good h.claims;
  }

-- ---- all lines

-- one more line that was read
next-log : (raw : List (List ℕ)) (before : List AuditLine) (line : List ℕ) (x : AuditLine)
    → audit_reading before line ≡ Ok x → IsLegalLog raw (account_of before)
    → IsLegalLog (raw ++ line ∷ []) (with_line (account_of before) x)
next-log raw before line VersionTwo read h =
    let same = no_claim raw line (version-read before line read) in record {
      legal = h.legal;
      events = h.events;
      claims = ap (λ (v : List (List ℕ)). v ++ made_line (subject_in (account_of before))) same ∙ h.claims;
    }
next-log raw before line (Says x) read h =
    let says = says-read before x (line, read) in
    let next = says-log raw (account_of before) h line says.0 x says.1 in record { legal = next.legal; events = next.events; claims = next.claims }
next-log raw before line (Claims claimed) read h =
    let is = claim-read before claimed (line, read) in
    let next = claims-log (account_of before) claimed is.0 is.2 raw line is.1 is.3 h in record { legal = next.legal; events = next.events; claims = next.claims }

-- a line that was read as good is no longer than a line may be, and the command reads it so
read_good : (long : Bool) (number : ℕ) (command_read : Result AuditLine AuditError) (x : AuditLine)
    → (if long then Err (too_long_line number) else result_map_both (λ (y : AuditLine). y)
    (blamed audit_command number) command_read)
    ≡ Ok x
    → command_read ≡ Ok x
read_good true number command_read x h = absurd cc
read_good false number (Ok y) x h = let same : y ≡ x = cc (h) in ap (λ (v : AuditLine). let r : Result AuditLine AuditError = Ok v in r) same
read_good false number (Err cause) x h = absurd cc

-- as many lines as items are those that read as them
first_lines : (raw rest : List (List ℕ)) (before : List AuditLine) → length raw ≡ length before
    → IsLegalLog raw (account_of before) → IsLegalRead (raw ++ rest) before
first_lines raw rest before same h =
    let first : take (length before) (raw ++ rest) ≡ raw = ap (λ (n : ℕ). take n (raw ++ rest)) (sym same) ∙ take-append_seam raw rest in
    subst (λ (lines : List (List ℕ)). IsLegalLog lines (account_of before)) (sym first) h

next-read : (raw : List (List ℕ)) (before : List AuditLine) (line : List ℕ) (more : List (List ℕ))
    (rest : List AuditLine → LinesRead AuditLine) (reading : Result AuditLine BadLine)
    → reading_of audit_command before line ≡ reading → length raw ≡ length before
    → IsLegalLog raw (account_of before)
    → ((after : List AuditLine) → length (raw ++ line ∷ []) ≡ length after
    → IsLegalLog (raw ++ line ∷ []) (account_of after)
    → IsLegalRead ((raw ++ line ∷ []) ++ more) (rest after).items)
    → IsLegalRead (raw ++ line ∷ more) (read_on before rest reading).items
next-read raw before line more rest (Err bad) e same h later = first_lines raw (line ∷ more) before same h
next-read raw before line more rest (Ok x) e same h later =
    let read = read_good (is_too_long line) _ (audit_reading before line) x e in
    let longer : length (raw ++ line ∷ []) ≡ length (before ++ x ∷ []) = length-append raw (line ∷ []) ∙ ap (λ (n : ℕ). n + 1) same ∙ sym (length-append before (x ∷ [])) in
    let next = subst (IsLegalLog (raw ++ line ∷ [])) (sym (account-more before x)) (next-log raw before line x read h) in
    subst (λ (lines : List (List ℕ)). IsLegalRead lines (rest (before ++ x ∷ [])).items) (append_assoc raw (line ∷ []) more) (later (before ++ x ∷ []) longer next)

from-log : (lines raw : List (List ℕ)) (before : List AuditLine) → length raw ≡ length before
    → IsLegalLog raw (account_of before)
    → IsLegalRead (raw ++ lines) (read_from audit_command before lines).items
unfolding read_from
from-log [] raw before same h = first_lines raw [] before same h
from-log (line ∷ rest) raw before same h =
    next-read raw before line rest (λ after. read_from audit_command after rest) (reading_of audit_command before line) refl same h
    (λ after longer g. from-log rest (raw ++ line ∷ []) after longer g)

-- whatever the bytes, the lines before the first bad one are a legal log
pub accepted_claims_are_legal : AcceptedClaimsAreLegal
accepted_claims_are_legal bytes ending = from-log (lines_of bytes ending) [] [] refl no_log

-- ---- a log of which no line is bad

item-more : (before : List AuditLine) (n : ℕ) (rest : List AuditLine → LinesRead AuditLine)
    → ((after : List AuditLine) → (rest after).bad ≡ None → length (rest after).items ≡ length after + n)
    → (reading : Result AuditLine BadLine) → (read_on before rest reading).bad ≡ None
    → length (read_on before rest reading).items ≡ length before + (n + 1)
item-more before n rest later (Err bad) h = absurd cc
item-more before n rest later (Ok x) h = omega (arith, later (before ++ x ∷ []) h, length-append before (x ∷ []))

-- each line is one item
read-whole : (lines : List (List ℕ)) (before : List AuditLine)
    → (read_from audit_command before lines).bad ≡ None
    → length (read_from audit_command before lines).items ≡ length before + length lines
unfolding read_from
read-whole [] before good = omega arith
read-whole (line ∷ rest) before good = omega (arith, item-more before (length rest) (λ after. read_from audit_command after rest) (λ after h. read-whole rest after h) (reading_of audit_command before line) good)

none_waits : (a : Account) (u : Option Unclaimed) (closing : List ℕ) → closing_by a u ≡ Ok closing → u ≡ None
none_waits a None closing h = refl
none_waits a (Some u) closing h = absurd cc

whole-log : (lines : List (List ℕ)) (a : Account) → a.unclaimed ≡ None → IsLegalLog lines a → IsRunLog lines a
whole-log lines a none h = record {
  legal = h.legal;
  events =
      sym (append-nil (events_of a.entries))
      ∙ ap (λ (u : Option Unclaimed). events_of a.entries ++ waiting_event (option_map (λ v. v.subject) u)) (sym none)
      ∙ h.events;
  claims =
      sym (append-nil (claims_in lines))
      ∙ ap (λ (u : Option Unclaimed). claims_in lines ++ made_line (option_map (λ v. v.subject) u)) (sym none)
      ∙ h.claims;
}

-- such a log is that of a run
pub legal_logs_are_runs : LegalLogsAreRuns
legal_logs_are_runs bytes closing good closes =
    let lines = lines_of bytes End in
    let items = (lines_read audit_command bytes End).items in
    let all : take (length items) lines ≡ lines = take_all (length items) lines (omega (arith, read-whole lines [] good)) in
    subst (λ (ls : List (List ℕ)). IsRunLog ls (account_of items)) all
    (whole-log (take (length items) lines) (account_of items) (none_waits (account_of items) (account_of items).unclaimed closing closes) (accepted_claims_are_legal bytes End))
