-- Credentials that compare equal, field by field, are the same.
use Rattle.std.proofs.Common.{◌≡◌, Bool, true, false, ◌&&◌, nat_eq, int_eq, refl}
use Rattle.std.proofs.lemmas.Bool.Decides.{Decides-eqb, Decides-int_eq}
use Rattle.signctl_format.specs.declared.credential.ScriptCredential.{ScriptCredential}

left : (a b : Bool) → (a && b) ≡ true → a ≡ true
left true b h = refl
left false b h = h

right : (a b : Bool) → (a && b) ≡ true → b ≡ true
right true b h = h
right false b h = absurd (cc)

-- a test of the first field, then of the second, the third and the fourth
pub same_credential : (x y : ScriptCredential)
    → (nat_eq x.generation y.generation
    && (int_eq x.fresh y.fresh && (int_eq x.expires y.expires && int_eq x.required y.required))) ≡ true
    → x ≡ y
same_credential x y h =
    let first = left (nat_eq x.generation y.generation)
    (int_eq x.fresh y.fresh && (int_eq x.expires y.expires && int_eq x.required y.required)) h in
    let three = right (nat_eq x.generation y.generation)
    (int_eq x.fresh y.fresh && (int_eq x.expires y.expires && int_eq x.required y.required)) h in
    let second = left (int_eq x.fresh y.fresh)
    (int_eq x.expires y.expires && int_eq x.required y.required) three in
    let two = right (int_eq x.fresh y.fresh)
    (int_eq x.expires y.expires && int_eq x.required y.required) three in
    let generation : x.generation ≡ y.generation = (Decides-eqb x.generation y.generation).0 first in
    let fresh : x.fresh ≡ y.fresh = (Decides-int_eq x.fresh y.fresh).0 second in
    let expires : x.expires ≡ y.expires = (Decides-int_eq x.expires y.expires).0
    (left (int_eq x.expires y.expires) (int_eq x.required y.required) two) in
    let required : x.required ≡ y.required = (Decides-int_eq x.required y.required).0
    (right (int_eq x.expires y.expires) (int_eq x.required y.required) two) in
    λ i. record { generation = generation i; fresh = fresh i; expires = expires i; required = required i }
