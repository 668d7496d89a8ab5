-- Words of a pair.
use Rattle.std.proofs.Common.{◌≡◌, refl}
use Rattle.block_words.specs.Ways.{opposite}
use Rattle.block_words.specs.declared.Way.{Way}
use Rattle.block_words.specs.declared.Way.TheVariants.{Up, Down}
use Rattle.line_law.specs.declared.ways.ByWay.{ByWay}
use Rattle.line_law.specs.Ways.{of_way, with_way}

-- the word that is written
pub of_way-with : {A : Type 0} → (both : ByWay A) (way : Way) (x : A) → of_way (with_way both way x) way ≡ x
of_way-with both Up x = refl
of_way-with both Down x = refl

-- the other word stays
pub of_way-with_other : {A : Type 0} → (both : ByWay A) (way : Way) (x : A)
    → of_way both (opposite way) ≡ of_way (with_way both way x) (opposite way)
of_way-with_other both Up x = refl
of_way-with_other both Down x = refl

-- the same, of the word of the opposite way
pub of_way-with_opposite : {A : Type 0} → (both : ByWay A) (way : Way) (x : A)
    → of_way (with_way both (opposite way) x) way ≡ of_way both way
of_way-with_opposite both Up x = refl
of_way-with_opposite both Down x = refl
