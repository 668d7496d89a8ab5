-- The train that comes next, by the word of its section.
use Rattle.std.proofs.Common.{◌≡◌, ◌≢◌, ℕ, List, [], ◌∷◌, ◌==◌, refl, sym, ap, ◌∙◌, arith}
use Rattle.std.specs.Prelude.{Some, None}
use Rattle.std.proofs.lemmas.List.Elements.{All-head}
use Rattle.block_words.specs.Sections.{lane}
use Rattle.block_words.specs.declared.Way.{Way}
use Rattle.line_law.specs.declared.link.Link.TheVariants.{In}
use Rattle.line_law.specs.declared.state.BoxState.{BoxState}
use Rattle.line_law.specs.declared.state.Passage.{Passage}
use Rattle.line_law.specs.Arrivals.{next_number, next_train}
use Rattle.line_law.specs.Ways.{of_way}
use Rattle.word_laws.specs.WordNumbers.{IsTrainNo, PlainLineAgrees, plain_line_number}
use Rattle.word_laws.proofs.Lanes.{eqb_yes, if_true, lane-plain_line_number, line_left}

-- an empty lane: no train comes
pub none_comes : (here : BoxState) (way : Way) (line : List Passage) → PlainLineAgrees (In way) here line
    → lane (plain_line_number line) (next_number here way) ≡ 0 → next_train here way line ≡ None
none_comes here way [] agrees empty = refl
none_comes here way (first ∷ line) agrees empty =
    let left = line_left (of_way here.incoming way).taken agrees.numbered.0 first line agrees.numbered.1 agrees.four
    agrees.each in
    let number = All-head (λ (passage : Passage). IsTrainNo passage.train) first line agrees.each in
    let is = left.lane_is in absurd (omega arith)

-- the train in the lane is the one that comes
pub one_comes : (here : BoxState) (way : Way) (line : List Passage) (train : ℕ)
    → PlainLineAgrees (In way) here line → lane (plain_line_number line) (next_number here way) ≡ train → train ≢ 0
    → next_train here way line ≡ Some train
one_comes here way [] train agrees is some =
    absurd (some (sym is ∙ lane-plain_line_number [] (next_number here way) agrees.each))
one_comes here way (first ∷ line) train agrees is some =
    let left = line_left (of_way here.incoming way).taken agrees.numbered.0 first line agrees.numbered.1 agrees.four
    agrees.each in
    if_true (first.number == next_number here way) (Some first.train) None
    (eqb_yes first.number (next_number here way) agrees.numbered.1.0)
    ∙ ap (λ (n : ℕ). Some n) (sym left.lane_is ∙ is)
