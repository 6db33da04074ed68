-- The last of some receipts.
use Rattle.std.proofs.Common.{◌≡◌, ℕ, zero, suc, ◌<◌, ◌+◌, ◌-◌, Bool, List, [], ◌∷◌, ◌++◌, Option, Some, length, get_or, take, drop, length-append, arith, refl, ap, ◌∙◌}
use Rattle.std.specs.Option.{option_map}
use Rattle.std.proofs.lemmas.List.{take_all}
use Rattle.sequential_signer.specs.Transcript.{last_of}
use Rattle.signer_book.specs.declared.pass.Receipt.{Receipt}
use Rattle.pool_books.specs.declared.answer.Answer.{Answer}
use Rattle.pool_books.specs.declared.answer.Outcome.{Outcome}
use Rattle.pool_books.specs.declared.job.Ticket.{Ticket}
use Rattle.sign_pool.specs.Work.{last_place, last_reply, outcome_of}

last-at : {X : Type 0} (xs : List X) (n : ℕ) (d : X) → n + 1 ≡ length xs → last_of xs ≡ Some (get_or xs n d)
last-at [] n d e = absurd (omega (arith, e))
last-at (x ∷ []) zero d e = refl
last-at (x ∷ []) (suc n) d e = absurd (omega (arith, e))
last-at (x ∷ (y ∷ rest)) zero d e = absurd (omega (arith, e))
last-at (x ∷ (y ∷ rest)) (suc n) d e = last-at (y ∷ rest) n d (omega (arith, e))

module _ {K : Type 0} (xs : List (Receipt K)) (some : 0 < length xs) where
  pub place-of-last : (before : ℕ) (d : Receipt K) → last_place before xs ≡ Some (before + (length xs - 1))
  place-of-last before d = ap (option_map (λ (r : Receipt K). before + (length xs - 1))) (last-at xs (length xs - 1) d (omega (arith, some)))

  pub reply-of-last : (d : Receipt K) → last_reply xs ≡ Some (get_or xs (length xs - 1) d).entry.reply
  reply-of-last d = ap (option_map (λ (r : Receipt K). r.entry.reply)) (last-at xs (length xs - 1) d (omega (arith, some)))

drop-past : {X : Type 0} (xs ys : List X) → drop (length xs) (xs ++ ys) ≡ ys
drop-past [] ys = refl
drop-past (x ∷ xs) ys = drop-past xs ys

-- the answer that is put after the others is read off the receipts that were added
module _ {K : Type 0} (before now added r slice : List (Receipt K)) (b : ℕ) where
  pub answer-is : (answers after : List Answer) (ticket : Ticket) (handle n m : ℕ) (l : Option ℕ)
      (o : Outcome) (out : Bool) → n ≡ m
      → after
      ≡ answers
      ++ record { ticket = ticket; call = record { handle = handle; number = n + 1 }; last = l; outcome = o }
      ∷ []
      → now ≡ before ++ added → r ≡ now → b ≡ length before → slice ≡ take (length r - b) (drop b r)
      → l ≡ last_place b slice → o ≡ outcome_of (last_reply slice) out
      → after
      ≡ answers
      ++ record {
        ticket = ticket;
        call = record { handle = handle; number = m + 1 };
        last = last_place (length before) added;
        outcome = outcome_of (last_reply added) out;
      }
      ∷ []
  answer-is answers after ticket handle n m l o out is pushed grown same count cut place end =
      let d : drop b r ≡ added = ap (drop b) (same ∙ grown) ∙ (ap (λ n. drop n (before ++ added)) count ∙ drop-past before added) in
      let all : length r ≡ length before + length added = ap length (same ∙ grown) ∙ length-append before added in
      let e : slice ≡ added = cut ∙ (ap (take (length r - b)) d ∙ take_all (length r - b) added (omega (arith, all, count))) in
      let l' : l ≡ last_place (length before) added = place ∙ (ap (λ n. last_place n slice) count ∙ ap (last_place (length before)) e) in
      let o' : o ≡ outcome_of (last_reply added) out = end ∙ ap (λ x. outcome_of (last_reply x) out) e in
      let f : ℕ → Option ℕ → Outcome → List Answer = λ k x y. answers ++ record { ticket = ticket; call = record { handle = handle; number = k + 1 }; last = x; outcome = y } ∷ [] in
      pushed ∙ (ap (λ k. f k l o) is ∙ (ap (λ x. f m x o) l' ∙ ap (f m (last_place (length before) added)) o'))
