-- The text of a credential has one access key, one day and one scope.
use Rattle.std.proofs.Common.{◌≡◌, ◌≢◌, ℕ, ℤ, ◌+◌, ◌/◌, ◌%◌, ◌<◌, ◌==◌, true, not, List, [], ◌∷◌, ◌++◌, codes, All, refl, sym, ap, ap₂, subst, ◌∙◌, arith, append_assoc}
use Rattle.std.specs.Prelude.{decimal, length, nat_lt}
use Rattle.std.specs.List.{list_all}
use Rattle.std.proofs.lemmas.Bool.{and_parts}
use Rattle.std.proofs.lemmas.Bool.Decides.{nat_tests}
use Rattle.std.proofs.lemmas.Fmt.{decimal_digit}
use Rattle.std.proofs.lemmas.List.Elements.{All-nil, All-cons, All-append, All-weaker}
use Rattle.std.proofs.lemmas.List.Sums.{AllPass-from_list_all}
use Rattle.http_uri.specs.ByteClasses.{slash}
use Rattle.sign_base.specs.Moment.{IsMoment}
use Rattle.sign_time.specs.Calendar.{Civil, civil_of, IsFourDigitYear}
use Rattle.sign_time.specs.MomentText.{two_digits, four_digits, date_text}
use Rattle.sign_time.proofs.MomentReadBack.{IsPrintable, civil_of-IsPrintable}
use Rattle.sigv4_core.specs.Scope.{Scope, is_scope, is_scope_name, is_scope_byte}
use Rattle.sigv4_core.specs.Signature.{scope_text, date_of, terminator}
use Rattle.sigv4_presign.specs.LinkClaims.{IsLastCut, AreParts, NamesSigner}
use Rattle.sigv4_presign.proofs.LastCuts.{one_cut, no_cut}

-- the byte is no slash
abbrev NoSlash : ℕ → Type 0
NoSlash b = b ≢ slash

-- ---- days and scopes have no slash
two_digits-NoSlash : (n : ℕ) → n < 100 → All NoSlash (two_digits n)
two_digits-NoSlash n small =
    let tens : decimal (n / 10) ≡ (48 + n / 10) ∷ [] = decimal_digit (n / 10) (omega arith) in
    let ones : decimal (n % 10) ≡ (48 + n % 10) ∷ [] = decimal_digit (n % 10) (omega arith) in
    let high : (48 + n / 10) ≢ slash = omega arith in
    let low : (48 + n % 10) ≢ slash = omega arith in
    subst (All NoSlash) (sym (ap₂ (λ (a b : List ℕ). a ++ b) tens ones)) (All-cons NoSlash (48 + n / 10) ((48 + n % 10) ∷ []) high (All-cons NoSlash (48 + n % 10) [] low (All-nil NoSlash)))

four_digits-NoSlash : (n : ℕ) → n < 10000 → All NoSlash (four_digits n)
four_digits-NoSlash n small = All-append NoSlash (two_digits (n / 100)) (two_digits (n % 100)) (two_digits-NoSlash (n / 100) (omega arith)) (two_digits-NoSlash (n % 100) (omega arith))

date_text-NoSlash : (c : Civil) → IsPrintable c → All NoSlash (date_text c)
date_text-NoSlash c h =
    All-append NoSlash (four_digits c.year) (two_digits c.month ++ two_digits c.day) (four_digits-NoSlash c.year h.year)
    (All-append NoSlash (two_digits c.month) (two_digits c.day) (two_digits-NoSlash c.month h.month) (two_digits-NoSlash c.day h.day))

scope_byte-NoSlash : (b : ℕ) → is_scope_byte b ≡ true → NoSlash b
scope_byte-NoSlash b h = grind (arith, nat_tests)

scope_name-NoSlash : (name : List ℕ) → is_scope_name name ≡ true → All NoSlash name
scope_name-NoSlash name h =
    All-weaker (λ b. is_scope_byte b ≡ true) NoSlash scope_byte-NoSlash name
    (AllPass-from_list_all is_scope_byte name (and_parts (nat_lt 0 (length name)) (list_all is_scope_byte name) h).1)

-- ---- the text of a scope, in a row
in_a_row : (access day region service last : List ℕ)
    → access ++ (47 ∷ ((day ++ 47 ∷ []) ++ ((region ++ 47 ∷ []) ++ ((service ++ 47 ∷ []) ++ last))))
    ≡ (((access ++ 47 ∷ day) ++ 47 ∷ region) ++ 47 ∷ service) ++ 47 ∷ last
in_a_row access day region service last = simp append_assoc refl

-- the text of an access key and a scope has them as its parts
module _ (t : ℤ) (moment : IsMoment t) (year : IsFourDigitYear t) where
  pub signer-AreParts : (text access : List ℕ) (scope : Scope) → is_scope scope.region scope.service ≡ true
      → text ≡ access ++ (codes "/" ++ scope_text scope t)
      → AreParts text access (date_of t) scope.region scope.service
  unfolding scope_text
  signer-AreParts text access scope scoped is =
      let names = and_parts (is_scope_name scope.region) (is_scope_name scope.service) scoped in
      record {
        whole = is ∙ in_a_row access (date_of t) scope.region scope.service terminator;
        one_day = date_text-NoSlash (civil_of t) (civil_of-IsPrintable t moment year);
        one_region = scope_name-NoSlash scope.region names.0;
        one_service = scope_name-NoSlash scope.service names.1;
      }

  pub NamesSigner-AreParts : (text access : List ℕ) (scope : Scope) → NamesSigner text access scope t
      → AreParts text access (date_of t) scope.region scope.service
  NamesSigner-AreParts text access scope names = signer-AreParts text access scope names.scoped names.whole

pub signer-whole : (text access : List ℕ) (scope : Scope) (t : ℤ)
    → AreParts text access (date_of t) scope.region scope.service
    → text ≡ access ++ (codes "/" ++ scope_text scope t)
unfolding scope_text
signer-whole text access scope t parts = parts.whole ∙ sym (in_a_row access (date_of t) scope.region scope.service terminator)

-- ---- the cuts of a text that has parts
other_byte : (b : ℕ) → not (b == slash) ≡ true → NoSlash b
other_byte b h = grind (arith, nat_tests)

terminator-NoSlash : All NoSlash terminator
terminator-NoSlash = All-weaker (λ b. not (b == slash) ≡ true) NoSlash other_byte terminator (AllPass-from_list_all (λ b. not (b == slash)) terminator refl)

module _ (text access day region service : List ℕ) (parts : AreParts text access day region service) where
  abbrev with_day : List ℕ
  with_day = access ++ slash ∷ day

  abbrev with_region : List ℕ
  with_region = with_day ++ slash ∷ region

  abbrev with_service : List ℕ
  with_service = with_region ++ slash ∷ service

  pub first_cut : IsLastCut slash text with_service terminator
  first_cut = record { whole = parts.whole; last = terminator-NoSlash }

  pub second_cut : IsLastCut slash with_service with_region service
  second_cut = record { whole = refl; last = parts.one_service }

  pub third_cut : IsLastCut slash with_region with_day region
  third_cut = record { whole = refl; last = parts.one_region }

  pub fourth_cut : IsLastCut slash with_day access day
  fourth_cut = record { whole = refl; last = parts.one_day }

module _ (text : List ℕ) where
  -- two ways to part a text are the same
  pub one_parting : (access day region service key date place store : List ℕ)
      → AreParts text access day region service → AreParts text key date place store
      → (access ≡ key) × (day ≡ date) × (region ≡ place) × (service ≡ store)
  one_parting access day region service key date place store parts other =
      let one = one_cut slash text _ _ _ _ (first_cut text access day region service parts) (first_cut text key date place store other) in
      let two = one_cut slash _ _ _ _ _ (second_cut text access day region service parts)
      (subst (λ rest. IsLastCut slash rest (with_region text key date place store other) store) (sym one.0) (second_cut text key date place store other)) in
      let three = one_cut slash _ _ _ _ _ (third_cut text access day region service parts)
      (subst (λ rest. IsLastCut slash rest (with_day text key date place store other) place) (sym two.0) (third_cut text key date place store other)) in
      let four = one_cut slash _ _ _ _ _ (fourth_cut text access day region service parts)
      (subst (λ rest. IsLastCut slash rest key date) (sym three.0) (fourth_cut text key date place store other)) in
      (four.0, four.1, three.1, two.1)

  -- where the cuts end before there are parts, the text has none
  pub no_slash : All NoSlash text → (access day region service : List ℕ)
      → ¬ (AreParts text access day region service)
  no_slash none access day region service parts = no_cut slash text _ _ none (first_cut text access day region service parts)

  module _ (rest last : List ℕ) (one : IsLastCut slash text rest last) where
    pub other_word : ¬ (last ≡ terminator) → (access day region service : List ℕ)
        → ¬ (AreParts text access day region service)
    other_word other access day region service parts = other (one_cut slash text _ _ _ _ one (first_cut text access day region service parts)).1

    pub no_service : All NoSlash rest → (access day region service : List ℕ)
        → ¬ (AreParts text access day region service)
    no_service none access day region service parts =
        let same = one_cut slash text _ _ _ _ one (first_cut text access day region service parts) in
        no_cut slash _ _ _ (subst (All NoSlash) same.0 none) (second_cut text access day region service parts)

    module _ (more service : List ℕ) (two : IsLastCut slash rest more service) where
      second_same : (access day region store : List ℕ) (parts : AreParts text access day region store)
          → (more ≡ with_region text access day region store parts) × (service ≡ store)
      second_same access day region store parts =
          let same = one_cut slash text _ _ _ _ one (first_cut text access day region store parts) in
          one_cut slash _ _ _ _ _ two (subst (λ r. IsLastCut slash r (with_region text access day region store parts) store) (sym same.0) (second_cut text access day region store parts))

      pub no_region : All NoSlash more → (access day region store : List ℕ)
          → ¬ (AreParts text access day region store)
      no_region none access day region store parts =
          no_cut slash _ _ _ (subst (All NoSlash) (second_same access day region store parts).0 none) (third_cut text access day region store parts)

      module _ (front region : List ℕ) (three : IsLastCut slash more front region) where
        pub no_day : All NoSlash front → (access day place store : List ℕ)
            → ¬ (AreParts text access day place store)
        no_day none access day place store parts =
            let two_same = second_same access day place store parts in
            let same = one_cut slash _ _ _ _ _ three (subst (λ r. IsLastCut slash r (with_day text access day place store parts) place) (sym two_same.0) (third_cut text access day place store parts)) in
            no_cut slash _ _ _ (subst (All NoSlash) same.0 none) (fourth_cut text access day place store parts)

        -- and else these are its parts
        pub parts_found : (access day : List ℕ) → last ≡ terminator → IsLastCut slash front access day
            → AreParts text access day region service
        parts_found access day word four = record {
          whole = one.whole
              ∙ ap₂ (λ (r w : List ℕ). r ++ slash ∷ w) (two.whole ∙ ap (λ r. r ++ slash ∷ service) (three.whole ∙ ap (λ r. r ++ slash ∷ region) four.whole)) word;
          one_day = four.last;
          one_region = three.last;
          one_service = two.last;
        }
