-- What a word that agrees with a box is below.
use Rattle.std.proofs.Common.{◌≡◌, ℕ, ◌+◌, ◌*◌, ◌%◌, ◌<◌, ◌^◌, Bool, true, false, refl, arith}
use Rattle.block_words.specs.Bells.{bell_count}
use Rattle.block_words.specs.Instruments.{position_code, spent_code}
use Rattle.block_words.specs.declared.Position.{Position}
use Rattle.block_words.specs.declared.Position.TheVariants as shows
use Rattle.block_words.specs.declared.Way.{Way}
use Rattle.line_law.specs.declared.link.Link.{Link}
use Rattle.line_law.specs.declared.link.Link.TheVariants.{Out}
use Rattle.line_law.specs.declared.state.BoxState.{BoxState}
use Rattle.line_law.specs.Links.{way_of}
use Rattle.line_law.specs.Ways.{of_way}
use Rattle.word_laws.specs.Footprint.{BellWord, BlockWord}
use Rattle.word_laws.specs.WordNumbers.{NumberAgrees, code_number}
use Rattle.word_laws.proofs.WordCalls.{code_small}
use Rattle.box_desk.specs.Boxes.{AreFew}

-- the bell that a box rings has rung no more than the box counts
pub few_rung : (here : BoxState) (side : Way) (word : ℕ) → AreFew here → NumberAgrees BellWord (Out side) here word
    → bell_count word < 2 ^ 32
few_rung here side word few agrees =
    let bell = of_way agrees.pair.bells side in
    let packs : 256 * bell.count + code_number bell.unheard ≡ word = agrees.packs in
    let small = code_small bell.unheard agrees.agrees.code in
    let rung = agrees.agrees.rung in
    let limit = few.rung side in
    omega (arith, packs, small, rung, limit)

below_three : (position : Position) → position_code position < 3
below_three shows.Normal = omega arith
below_three shows.LineClear = omega arith
below_three shows.TrainOnLine = omega arith

four_or_none : (spent : Bool) → (c : ℕ) × (spent_code spent ≡ 4 * c)
four_or_none true = (1, refl)
four_or_none false = (0, refl)

-- the word of an instrument shows one of its positions
pub shows_position : (link : Link) (here : BoxState) (word : ℕ) → NumberAgrees BlockWord link here word → word % 4 < 3
shows_position link here word agrees =
    let block = of_way agrees.pair.blocks (way_of link) in
    let packs : 8 * block.turns + spent_code block.spent + position_code block.position ≡ word = agrees.packs in
    let small = below_three block.position in
    let mark = four_or_none block.spent in
    omega (arith, packs, small, mark.1)
