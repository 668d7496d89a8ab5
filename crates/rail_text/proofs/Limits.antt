-- A fetch of one byte more than a text's limit is enough.
use Rattle.std.proofs.Common.{◌≡◌, ℕ, ◌+◌, List, length, take, ltb, cond, true, refl, ap, arith, inl, inr}
use Rattle.std.proofs.lemmas.Bool.{cases_lt, lt-ltb}
use Rattle.std.proofs.lemmas.List.{take_all, length-take}

-- a reading that first tests the limit
pub limited-take : {Y : Type 0} (limit : ℕ) (too_long : Y) (read : List ℕ → Y) (bytes : List ℕ)
    → cond (ltb limit (length (take (limit + 1) bytes))) too_long (read (take (limit + 1) bytes))
    ≡ cond (ltb limit (length bytes)) too_long (read bytes)
limited-take limit too_long read bytes = elim (cases_lt limit (length bytes)) [
  | inl lt ↦
      let short : ltb limit (length (take (limit + 1) bytes)) ≡ true =
      lt-ltb _ _ (omega (arith, length-take (limit + 1) bytes)) in
      let long : ltb limit (length bytes) ≡ true = lt-ltb _ _ lt in
      rw (short, long) refl
  | inr le ↦
      ap (λ (bs : List ℕ). cond (ltb limit (length bs)) too_long (read bs)) (take_all (limit + 1) bytes (omega arith))
]
