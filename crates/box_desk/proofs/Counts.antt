-- The counts of an incoming line, in the box and in its equipment.
use Rattle.std.proofs.Common.{◌≡◌, ◌<◌, ◌≤◌, ◌^◌, refl, subst, arith}
use Rattle.block_words.specs.declared.Way.{Way}
use Rattle.block_words.specs.declared.Way.TheVariants.{Up, Down}
use Rattle.line_law.specs.declared.state.Incoming.{Incoming}
use Rattle.line_law.specs.declared.ways.ByWay.{ByWay}
use Rattle.line_law.specs.Ways.{of_way}
use Rattle.box_desk.specs.declared.equipment.Equipment.{Equipment}
use Rattle.box_desk.specs.declared.incoming.IncomingLine.{IncomingLine}
use Rattle.box_desk.specs.Boxes.{AreFew, here_of}
use Rattle.box_desk.specs.IncomingLines.{incoming_by, incoming_of}

-- the law has of each line what the desk has of it
pub incoming_at : (lines : ByWay IncomingLine) (way : Way)
    → of_way (incoming_by lines) way ≡ incoming_of (of_way lines way)
incoming_at lines Up = refl
incoming_at lines Down = refl

-- the turns of an incoming line leave room for one more
pub few_turns : (box : Equipment) (way : Way) → AreFew (here_of box) → (of_way box.lines way).turns < 2 ^ 32
few_turns box way few =
    let limit : (of_way box.lines way).turns ≤ 4294967295 =
    subst (λ (line : Incoming). line.turns ≤ 4294967295) (incoming_at box.lines way) (few.turns way) in
    omega (arith, limit)

-- and so do the trains that it took
pub few_taken : (box : Equipment) (way : Way) → AreFew (here_of box) → (of_way box.lines way).taken < 2 ^ 32
few_taken box way few =
    let limit : (of_way box.lines way).taken ≤ 4294967295 =
    subst (λ (line : Incoming). line.taken ≤ 4294967295) (incoming_at box.lines way) (few.taken way) in
    omega (arith, limit)
