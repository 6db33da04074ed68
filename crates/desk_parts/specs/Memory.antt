-- Credentials that are handed out whatever memory is left.

-- no clone of a credential takes memory
abbrev pub ClonesAreFree : {K : Type 0} → (K → Type 0) → Type 0
ClonesAreFree {K} free = (c : K) → free c
