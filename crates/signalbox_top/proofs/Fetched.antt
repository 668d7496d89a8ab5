-- A text that a shelf gives whole.
use Rattle.std.proofs.Common.{◌≡◌, ◌≤◌, ◌+◌, ℕ, List, Option, Some, None, IfSome, length, take, arith, ap, min, ◌∙◌}
use Rattle.std.proofs.lemmas.List.{take_all, length-take}

-- no more bytes than the most were given of one more than the most: they are all
whole : (all bytes : List ℕ) → bytes ≡ take (4294967294 + 1) all → length bytes ≤ 4294967294 → bytes ≡ all
whole all bytes is few =
    let count : length bytes ≡ min (4294967294 + 1) (length all) = ap length is ∙ length-take (4294967294 + 1) all in
    is ∙ take_all (4294967294 + 1) all (omega arith)

-- a text of which no more bytes come than the limit is given whole
pub whole_held : (held : Option (List ℕ)) (bytes : List ℕ)
    → IfSome held (λ all. bytes ≡ take (4294967294 + 1) all) → length bytes ≤ 4294967294
    → IfSome held (λ all. bytes ≡ all)
whole_held None bytes is few = is
whole_held (Some all) bytes is few = whole all bytes is few
