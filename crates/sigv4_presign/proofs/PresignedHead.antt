-- What the link of a head that can be signed is, or why there is none, cause by cause.
use Rattle.std.proofs.Common.{◌≡◌, ℕ, Bool, true, false, not, ◌||◌, ◌==◌, Ok, Err, refl, ◌∙◌, ℤ, arith}
use Rattle.std.specs.Prelude.{is_some, nat_lt, if◌then◌else◌}
use Rattle.std.proofs.lemmas.Bool.Decides.{nat_tests}
use Rattle.sign_base.specs.declared.head.Head.{Head}
use Rattle.sign_request.specs.AcceptedHead.{is_accepted_head}
use Rattle.sign_request.specs.PlainTarget.{PlainTarget, target_of}
use Rattle.sigv4_core.specs.Scope.{Scope}
use Rattle.sigv4_core.specs.Credential.{Credential as Keys}
use Rattle.sigv4_core.specs.SignedHead.{target_to_sign, is_before_year_0}
use Rattle.sigv4_presign.specs.LinkPairs.{has_link_name}
use Rattle.sigv4_presign.specs.PresignedLink.{is_expiry, most_expires, raw_query, presigned_link, presigning_of}
use Rattle.sigv4_presign.specs.declared.presign_error.PresignError.TheVariants.{Already, Expires, Link}
use Rattle.sigv4_presign.proofs.AcceptedLink.{signable-accepted, with_uri-accepted}

-- a number of seconds is refused where it is no expiry
is_refused_expiry : (n : ℕ) (b : Bool) → is_expiry n ≡ b → ((n == 0) || nat_lt most_expires n) ≡ not b
is_refused_expiry n b e = grind (arith, nat_tests, e)

module _ (keys : Keys) (scope : Scope) (expires : ℕ) (now : ℤ) (head : Head) where
  module _ (target : PlainTarget) (signable : target_to_sign scope head ≡ Ok target) where
    module _ (later : is_before_year_0 now ≡ false) where
      pub presigning-already : has_link_name (raw_query target) ≡ true
          → presigning_of keys scope expires now head ≡ Err Already
      unfolding presigning_of
      presigning-already already = rw (signable, later, already) refl

      module _ (plain : has_link_name (raw_query target) ≡ false) where
        pub presigning-expires : is_expiry expires ≡ false
            → presigning_of keys scope expires now head ≡ Err Expires
        unfolding presigning_of
        presigning-expires none = rw (signable, later, plain, is_refused_expiry expires false none) refl

        module _ (good : is_expiry expires ≡ true) where
          abbrev pub linked : Head
          linked = record head { uri = presigned_link keys scope expires now head target }

          -- the head with the link, if `http` reads the link
          pub presigning-link : (read : Bool)
              → is_some (target_of (presigned_link keys scope expires now head target)) ≡ read
              → presigning_of keys scope expires now head ≡ (if read then Ok linked else Err Link)
          unfolding presigning_of
          presigning-link read e =
              let accepted : is_accepted_head linked ≡ read = with_uri-accepted head _ (signable-accepted scope head target signable) ∙ e in
              rw (signable, later, plain, is_refused_expiry expires true good, accepted) refl
