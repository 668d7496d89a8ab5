-- The same in the pair that has the word, and for words apart.
use Rattle.std.proofs.Common.{ℕ, ◌≡◌, ◌≢◌, ◌<◌, ◌⊎◌, inl, inr, List, ◌&&◌, IsTrue, refl, ap, arith}
use Rattle.std.specs.Prelude.{nat_lt}
use Rattle.std.proofs.lemmas.Bool.Decides.{nat_tests}
use Rattle.block_words.specs.declared.Way.{Way}
use Rattle.block_words.specs.declared.Way.TheVariants.{Up, Down}
use Rattle.line_plan.specs.Frames.{same_way}
use Rattle.line_law.specs.declared.call.Act.{Act}
use Rattle.line_law.specs.declared.call.Reply.{Reply}
use Rattle.line_law.specs.declared.link.Link.{Link}
use Rattle.line_law.specs.declared.link.Link.TheVariants.{Out, In}
use Rattle.line_law.specs.declared.state.Bell.{Bell}
use Rattle.line_law.specs.declared.state.Block.{Block}
use Rattle.line_law.specs.declared.state.PairState.{PairState}
use Rattle.line_law.specs.declared.state.Passage.{Passage}
use Rattle.word_laws.specs.Footprint.{Kind, Tally, BellWord, BlockWord, PlainLineWord, Apart}
use Rattle.line_law.specs.Links.{pair_no, way_of}
use Rattle.line_law.specs.SectionFacts.{HasLink}
use Rattle.line_law.specs.Ways.{of_way, with_way}
use Rattle.line_law.proofs.Found.{both}
use Rattle.word_laws.specs.TellsWord.{IsReplyAt}
use Rattle.line_journal.specs.Fits.{FitsBell, FitsBlock, FitsPlainLine, FitsWord}
use Rattle.line_journal.specs.Fits.{bell_made, block_made, plain_line_made, word_made}
use Rattle.line_journal.specs.Order.{kept_back, same_kind}
use Rattle.line_journal.specs.Exchanges.{ChangePlaces, IsLostOnBell, IsLostOnBlock, IsLostOnPlainLine, IsLostOnWord}
use Rattle.line_journal.proofs.WordMoves.{Moves, bell_lost, block_lost, in_bell_moves}
use Rattle.line_journal.proofs.WordMoves.{in_bell_stays, in_block_lost, in_block_moves, in_line_moves}
use Rattle.line_journal.proofs.WordMoves.{in_line_stays, line_lost, out_bell_moves, out_bell_stays}
use Rattle.line_journal.proofs.WordMoves.{out_block_moves, out_block_stays, out_line_moves, out_line_stays}

-- the two ends of one word
pub data OppositeEnds : Link → Link → Type 0 where
  OutIn : (way : Way) → OppositeEnds (Out way) (In way)
  InOut : (way : Way) → OppositeEnds (In way) (Out way)

-- two entries change places in one pair
abbrev pub PairSwap : Kind → Way → Act → Reply → Kind → Way → Act → Reply → PairState → Type 0
PairSwap k v a r l u c q pair =
    ChangePlaces (FitsWord k v a r) (FitsWord l u c q) (word_made k v a r) (word_made l u c q) pair

-- what two entries on one word owe
abbrev pub PairMoves : Kind → Way → Act → Reply → Act → Reply → PairState → Type 0
PairMoves k v a r c q pair =
    IsTrue (kept_back r q) ⊎ (PairSwap k v a r k v c q pair ⊎ IsLostOnWord k v r (word_made k v c q pair))

-- ---- on one word

lift_bell : (v : Way) (a c : Act) (r q : Reply) (p : PairState)
    → Moves (kept_back r q) (IsLostOnBell r) (FitsBell r) (FitsBell q) (bell_made a r) (bell_made c q)
    (of_way p.bells v) → PairMoves BellWord v a r c q p
lift_bell v a c r q p (inl kept) = inl kept
lift_bell Up a c r q p (inr (inl s)) =
    inr (inl (record {
      first = s.first;
      second = s.second;
      word =
          ap (λ (x : Bell). let pair : PairState = record p { bells = with_way p.bells Up x } in pair) s.word;
    }))
lift_bell Up a c r q p (inr (inr lost)) = inr (inr lost)
lift_bell Down a c r q p (inr (inl s)) =
    inr (inl (record {
      first = s.first;
      second = s.second;
      word =
          ap (λ (x : Bell). let pair : PairState = record p { bells = with_way p.bells Down x } in pair) s.word;
    }))
lift_bell Down a c r q p (inr (inr lost)) = inr (inr lost)

lift_block : (v : Way) (a c : Act) (r q : Reply) (p : PairState)
    → Moves (kept_back r q) (IsLostOnBlock r) (FitsBlock a r) (FitsBlock c q) (block_made a r) (block_made c q)
    (of_way p.blocks v) → PairMoves BlockWord v a r c q p
lift_block v a c r q p (inl kept) = inl kept
lift_block Up a c r q p (inr (inl s)) =
    inr (inl (record {
      first = s.first;
      second = s.second;
      word =
          ap (λ (x : Block). let pair : PairState = record p { blocks = with_way p.blocks Up x } in pair) s.word;
    }))
lift_block Up a c r q p (inr (inr lost)) = inr (inr lost)
lift_block Down a c r q p (inr (inl s)) =
    inr (inl (record {
      first = s.first;
      second = s.second;
      word =
          ap (λ (x : Block). let pair : PairState = record p { blocks = with_way p.blocks Down x } in pair) s.word;
    }))
lift_block Down a c r q p (inr (inr lost)) = inr (inr lost)

lift_line : (v : Way) (a c : Act) (r q : Reply) (p : PairState)
    → Moves (kept_back r q) (IsLostOnPlainLine r) (FitsPlainLine r) (FitsPlainLine q) (plain_line_made r)
    (plain_line_made q) (of_way p.lines v) → PairMoves PlainLineWord v a r c q p
lift_line v a c r q p (inl kept) = inl kept
lift_line Up a c r q p (inr (inl s)) =
    inr (inl (record {
      first = s.first;
      second = s.second;
      word =
          ap (λ (x : List Passage). let pair : PairState = record p { lines = with_way p.lines Up x } in pair) s.word;
    }))
lift_line Up a c r q p (inr (inr lost)) = inr (inr lost)
lift_line Down a c r q p (inr (inl s)) =
    inr (inl (record {
      first = s.first;
      second = s.second;
      word =
          ap (λ (x : List Passage). let pair : PairState = record p { lines = with_way p.lines Down x } in pair) s.word;
    }))
lift_line Down a c r q p (inr (inr lost)) = inr (inr lost)

out_moves : (v : Way) (k : Kind) (a c : Act) (r q : Reply) (p : PairState) → (k ≡ Tally → ⊥) → IsReplyAt (Out v) r
    → IsReplyAt (In v) q → FitsWord k v a r p → FitsWord k v c q p → PairMoves k v a r c q p
out_moves v Tally a c r q p ne at there f g = absurd (ne refl)
out_moves v BellWord a c r q p ne at there f g =
    lift_bell v a c r q p (out_bell_moves a c r q (of_way p.bells v) at there f g)
out_moves v BlockWord a c r q p ne at there f g =
    lift_block v a c r q p (out_block_moves a c r q (of_way p.blocks v) at there f g)
out_moves v PlainLineWord a c r q p ne at there f g =
    lift_line v a c r q p (out_line_moves r q (of_way p.lines v) at there f g)

in_moves : (v : Way) (k : Kind) (a c : Act) (r q : Reply) (p : PairState) → (k ≡ Tally → ⊥) → IsReplyAt (In v) r
    → IsReplyAt (Out v) q → FitsWord k v a r p → FitsWord k v c q p → PairMoves k v a r c q p
in_moves v Tally a c r q p ne at there f g = absurd (ne refl)
in_moves v BellWord a c r q p ne at there f g =
    lift_bell v a c r q p (in_bell_moves a c r q (of_way p.bells v) at there f g)
in_moves v BlockWord a c r q p ne at there f g =
    lift_block v a c r q p (in_block_moves a c r q (of_way p.blocks v) at there f g)
in_moves v PlainLineWord a c r q p ne at there f g =
    lift_line v a c r q p (in_line_moves r q (of_way p.lines v) at there f g)

-- two entries at the ends of one line: what each makes of the other's word
pub pair_moves : (l m : Link) → OppositeEnds l m → (k : Kind) (a c : Act) (r q : Reply) (p : PairState)
    → (k ≡ Tally → ⊥) → IsReplyAt l r → IsReplyAt m q → FitsWord k (way_of l) a r p → FitsWord k (way_of m) c q p
    → PairMoves k (way_of l) a r c q p × (way_of l ≡ way_of m)
pair_moves l m (OutIn v) k a c r q p ne at there f g = (out_moves v k a c r q p ne at there f g, refl)
pair_moves l m (InOut v) k a c r q p ne at there f g = (in_moves v k a c r q p ne at there f g, refl)

-- what is lost stays lost while the other end works the word

out_stays : (v : Way) (k : Kind) (c : Act) (r q : Reply) (p : PairState) → IsReplyAt (Out v) r → IsReplyAt (In v) q
    → FitsWord k v c q p → IsLostOnWord k v r p → IsLostOnWord k v r (word_made k v c q p)
out_stays v Tally c r q p at there g lost = lost
out_stays Up BellWord c r q p at there g lost = out_bell_stays c r q (of_way p.bells Up) at there g lost
out_stays Up BlockWord c r q p at there g lost = out_block_stays c r q (of_way p.blocks Up) there g lost
out_stays Up PlainLineWord c r q p at there g lost = out_line_stays r q (of_way p.lines Up) at there lost
out_stays Down BellWord c r q p at there g lost = out_bell_stays c r q (of_way p.bells Down) at there g lost
out_stays Down BlockWord c r q p at there g lost = out_block_stays c r q (of_way p.blocks Down) there g lost
out_stays Down PlainLineWord c r q p at there g lost = out_line_stays r q (of_way p.lines Down) at there lost

in_stays : (v : Way) (k : Kind) (c : Act) (r q : Reply) (p : PairState) → IsReplyAt (In v) r → IsReplyAt (Out v) q
    → FitsWord k v c q p → IsLostOnWord k v r p → IsLostOnWord k v r (word_made k v c q p)
in_stays v Tally c r q p at there g lost = lost
in_stays Up BellWord c r q p at there g lost = in_bell_stays c r q (of_way p.bells Up) at there g lost
in_stays Up BlockWord c r q p at there g lost = absurd (in_block_lost r (of_way p.blocks Up) at lost)
in_stays Up PlainLineWord c r q p at there g lost = in_line_stays r q (of_way p.lines Up) at there lost
in_stays Down BellWord c r q p at there g lost = in_bell_stays c r q (of_way p.bells Down) at there g lost
in_stays Down BlockWord c r q p at there g lost = absurd (in_block_lost r (of_way p.blocks Down) at lost)
in_stays Down PlainLineWord c r q p at there g lost = in_line_stays r q (of_way p.lines Down) at there lost

-- what is lost stays lost
pub lost_stays : (l m : Link) → OppositeEnds l m → (k : Kind) (c : Act) (r q : Reply) (p : PairState) → IsReplyAt l r
    → IsReplyAt m q → FitsWord k (way_of m) c q p → IsLostOnWord k (way_of l) r p
    → IsLostOnWord k (way_of l) r (word_made k (way_of m) c q p)
lost_stays l m (OutIn v) k c r q p at there g lost = out_stays v k c r q p at there g lost
lost_stays l m (InOut v) k c r q p at there g lost = in_stays v k c r q p at there g lost

-- where a reply is lost it doesn't fit
pub word_lost : (k : Kind) (v : Way) (a : Act) (r : Reply) (p : PairState) → IsLostOnWord k v r p → FitsWord k v a r p
    → ⊥
word_lost Tally v a r p lost f = lost
word_lost BellWord v a r p lost f = bell_lost r (of_way p.bells v) lost f
word_lost BlockWord v a r p lost f = block_lost a r (of_way p.blocks v) lost f
word_lost PlainLineWord v a r p lost f = line_lost r (of_way p.lines v) lost f

-- ---- on words apart

-- a fact of a word stays while another word is worked
pub apart_fits : (k : Kind) (v : Way) (a : Act) (r : Reply) (l : Kind) (u : Way) (c : Act) (q : Reply) (p : PairState)
    → Apart k v l u → FitsWord k v a r p → FitsWord k v a r (word_made l u c q p)
apart_fits Tally v a r Tally u c q p apart f = f
apart_fits Tally v a r BellWord u c q p apart f = f
apart_fits Tally v a r BlockWord u c q p apart f = f
apart_fits Tally v a r PlainLineWord u c q p apart f = f
apart_fits BellWord v a r Tally u c q p apart f = f
apart_fits BellWord Up a r BellWord Up c q p apart f = absurd apart
apart_fits BellWord Up a r BellWord Down c q p apart f = f
apart_fits BellWord Down a r BellWord Up c q p apart f = f
apart_fits BellWord Down a r BellWord Down c q p apart f = absurd apart
apart_fits BellWord v a r BlockWord u c q p apart f = f
apart_fits BellWord v a r PlainLineWord u c q p apart f = f
apart_fits BlockWord v a r Tally u c q p apart f = f
apart_fits BlockWord v a r BellWord u c q p apart f = f
apart_fits BlockWord Up a r BlockWord Up c q p apart f = absurd apart
apart_fits BlockWord Up a r BlockWord Down c q p apart f = f
apart_fits BlockWord Down a r BlockWord Up c q p apart f = f
apart_fits BlockWord Down a r BlockWord Down c q p apart f = absurd apart
apart_fits BlockWord v a r PlainLineWord u c q p apart f = f
apart_fits PlainLineWord v a r Tally u c q p apart f = f
apart_fits PlainLineWord v a r BellWord u c q p apart f = f
apart_fits PlainLineWord v a r BlockWord u c q p apart f = f
apart_fits PlainLineWord Up a r PlainLineWord Up c q p apart f = absurd apart
apart_fits PlainLineWord Up a r PlainLineWord Down c q p apart f = f
apart_fits PlainLineWord Down a r PlainLineWord Up c q p apart f = f
apart_fits PlainLineWord Down a r PlainLineWord Down c q p apart f = absurd apart

-- so it does by an entry on another word
pub apart_lost : (k : Kind) (v : Way) (r : Reply) (l : Kind) (u : Way) (c : Act) (q : Reply) (p : PairState)
    → Apart k v l u → IsLostOnWord k v r p → IsLostOnWord k v r (word_made l u c q p)
apart_lost Tally v r Tally u c q p apart f = f
apart_lost Tally v r BellWord u c q p apart f = f
apart_lost Tally v r BlockWord u c q p apart f = f
apart_lost Tally v r PlainLineWord u c q p apart f = f
apart_lost BellWord v r Tally u c q p apart f = f
apart_lost BellWord Up r BellWord Up c q p apart f = absurd apart
apart_lost BellWord Up r BellWord Down c q p apart f = f
apart_lost BellWord Down r BellWord Up c q p apart f = f
apart_lost BellWord Down r BellWord Down c q p apart f = absurd apart
apart_lost BellWord v r BlockWord u c q p apart f = f
apart_lost BellWord v r PlainLineWord u c q p apart f = f
apart_lost BlockWord v r Tally u c q p apart f = f
apart_lost BlockWord v r BellWord u c q p apart f = f
apart_lost BlockWord Up r BlockWord Up c q p apart f = absurd apart
apart_lost BlockWord Up r BlockWord Down c q p apart f = f
apart_lost BlockWord Down r BlockWord Up c q p apart f = f
apart_lost BlockWord Down r BlockWord Down c q p apart f = absurd apart
apart_lost BlockWord v r PlainLineWord u c q p apart f = f
apart_lost PlainLineWord v r Tally u c q p apart f = f
apart_lost PlainLineWord v r BellWord u c q p apart f = f
apart_lost PlainLineWord v r BlockWord u c q p apart f = f
apart_lost PlainLineWord Up r PlainLineWord Up c q p apart f = absurd apart
apart_lost PlainLineWord Up r PlainLineWord Down c q p apart f = f
apart_lost PlainLineWord Down r PlainLineWord Up c q p apart f = f
apart_lost PlainLineWord Down r PlainLineWord Down c q p apart f = absurd apart

apart_word : (k : Kind) (v : Way) (a : Act) (r : Reply) (l : Kind) (u : Way) (c : Act) (q : Reply) (p : PairState)
    → Apart k v l u → word_made l u c q (word_made k v a r p) ≡ word_made k v a r (word_made l u c q p)
apart_word Tally v a r Tally u c q p apart = refl
apart_word Tally v a r BellWord u c q p apart = refl
apart_word Tally v a r BlockWord u c q p apart = refl
apart_word Tally v a r PlainLineWord u c q p apart = refl
apart_word BellWord v a r Tally u c q p apart = refl
apart_word BellWord Up a r BellWord Up c q p apart = absurd apart
apart_word BellWord Up a r BellWord Down c q p apart = refl
apart_word BellWord Down a r BellWord Up c q p apart = refl
apart_word BellWord Down a r BellWord Down c q p apart = absurd apart
apart_word BellWord v a r BlockWord u c q p apart = refl
apart_word BellWord v a r PlainLineWord u c q p apart = refl
apart_word BlockWord v a r Tally u c q p apart = refl
apart_word BlockWord v a r BellWord u c q p apart = refl
apart_word BlockWord Up a r BlockWord Up c q p apart = absurd apart
apart_word BlockWord Up a r BlockWord Down c q p apart = refl
apart_word BlockWord Down a r BlockWord Up c q p apart = refl
apart_word BlockWord Down a r BlockWord Down c q p apart = absurd apart
apart_word BlockWord v a r PlainLineWord u c q p apart = refl
apart_word PlainLineWord v a r Tally u c q p apart = refl
apart_word PlainLineWord v a r BellWord u c q p apart = refl
apart_word PlainLineWord v a r BlockWord u c q p apart = refl
apart_word PlainLineWord Up a r PlainLineWord Up c q p apart = absurd apart
apart_word PlainLineWord Up a r PlainLineWord Down c q p apart = refl
apart_word PlainLineWord Down a r PlainLineWord Up c q p apart = refl
apart_word PlainLineWord Down a r PlainLineWord Down c q p apart = absurd apart

apart_back : (k : Kind) (v : Way) (l : Kind) (u : Way) → Apart k v l u → Apart l u k v
apart_back Tally v Tally u apart = tt
apart_back Tally v BellWord u apart = tt
apart_back Tally v BlockWord u apart = tt
apart_back Tally v PlainLineWord u apart = tt
apart_back BellWord v Tally u apart = tt
apart_back BellWord Up BellWord Up apart = apart
apart_back BellWord Up BellWord Down apart = apart
apart_back BellWord Down BellWord Up apart = apart
apart_back BellWord Down BellWord Down apart = apart
apart_back BellWord v BlockWord u apart = tt
apart_back BellWord v PlainLineWord u apart = tt
apart_back BlockWord v Tally u apart = tt
apart_back BlockWord v BellWord u apart = tt
apart_back BlockWord Up BlockWord Up apart = apart
apart_back BlockWord Up BlockWord Down apart = apart
apart_back BlockWord Down BlockWord Up apart = apart
apart_back BlockWord Down BlockWord Down apart = apart
apart_back BlockWord v PlainLineWord u apart = tt
apart_back PlainLineWord v Tally u apart = tt
apart_back PlainLineWord v BellWord u apart = tt
apart_back PlainLineWord v BlockWord u apart = tt
apart_back PlainLineWord Up PlainLineWord Up apart = apart
apart_back PlainLineWord Up PlainLineWord Down apart = apart
apart_back PlainLineWord Down PlainLineWord Up apart = apart
apart_back PlainLineWord Down PlainLineWord Down apart = apart

-- entries on two words change places
pub apart_swap : (k : Kind) (v : Way) (a : Act) (r : Reply) (l : Kind) (u : Way) (c : Act) (q : Reply) (p : PairState)
    → Apart k v l u → FitsWord k v a r p → FitsWord l u c q p → PairSwap k v a r l u c q p
apart_swap k v a r l u c q p apart f g =
    record {
      first = apart_fits k v a r l u c q p apart f;
      second = apart_fits l u c q k v a r p (apart_back k v l u apart) g;
      word = apart_word k v a r l u c q p apart;
    }

-- two words of a pair are one, or two

-- two words of a pair are apart, or the same one
pub one_or_two : (k : Kind) (v : Way) (l : Kind) (u : Way) → Apart k v l u
    ⊎ ((k ≡ l) × (k ≡ Tally → ⊥) × IsTrue (same_kind k l) × IsTrue (same_way v u))
one_or_two Tally v Tally u = inl tt
one_or_two Tally v BellWord u = inl tt
one_or_two Tally v BlockWord u = inl tt
one_or_two Tally v PlainLineWord u = inl tt
one_or_two BellWord v Tally u = inl tt
one_or_two BellWord Up BellWord Up = inr (refl, λ e. cc e, refl, refl)
one_or_two BellWord Up BellWord Down = inl tt
one_or_two BellWord Down BellWord Up = inl tt
one_or_two BellWord Down BellWord Down = inr (refl, λ e. cc e, refl, refl)
one_or_two BellWord v BlockWord u = inl tt
one_or_two BellWord v PlainLineWord u = inl tt
one_or_two BlockWord v Tally u = inl tt
one_or_two BlockWord v BellWord u = inl tt
one_or_two BlockWord Up BlockWord Up = inr (refl, λ e. cc e, refl, refl)
one_or_two BlockWord Up BlockWord Down = inl tt
one_or_two BlockWord Down BlockWord Up = inl tt
one_or_two BlockWord Down BlockWord Down = inr (refl, λ e. cc e, refl, refl)
one_or_two BlockWord v PlainLineWord u = inl tt
one_or_two PlainLineWord v Tally u = inl tt
one_or_two PlainLineWord v BellWord u = inl tt
one_or_two PlainLineWord v BlockWord u = inl tt
one_or_two PlainLineWord Up PlainLineWord Up = inr (refl, λ e. cc e, refl, refl)
one_or_two PlainLineWord Up PlainLineWord Down = inl tt
one_or_two PlainLineWord Down PlainLineWord Up = inl tt
one_or_two PlainLineWord Down PlainLineWord Down = inr (refl, λ e. cc e, refl, refl)

-- ---- two boxes on one word

-- a number between others is above 0
pub above : (n b : ℕ) → IsTrue (nat_lt 0 b && nat_lt b n) → 0 < b
above n b h = let p = (both (nat_lt 0 b) (nat_lt b n) h).0 in grind (arith, nat_tests)

-- two boxes that reach one pair by one way are at the two ends of the line
pub opposite_ends : (n b c : ℕ) (l m : Link) → b ≢ c → HasLink n b l → HasLink n c m → pair_no b l ≡ pair_no c m
    → IsTrue (same_way (way_of l) (way_of m)) → OppositeEnds l m
opposite_ends n b c (Out Up) (Out Up) ne here there e w =
    let p = above n b here in let q = above n c there in absurd (ne (omega (arith, p, q, e)))
opposite_ends n b c (Out Up) (Out Down) ne here there e w = absurd (cc w)
opposite_ends n b c (Out Up) (In Up) ne here there e w = OutIn Up
opposite_ends n b c (Out Up) (In Down) ne here there e w = absurd (cc w)
opposite_ends n b c (Out Down) (Out Up) ne here there e w = absurd (cc w)
opposite_ends n b c (Out Down) (Out Down) ne here there e w = absurd (ne e)
opposite_ends n b c (Out Down) (In Up) ne here there e w = absurd (cc w)
opposite_ends n b c (Out Down) (In Down) ne here there e w = OutIn Down
opposite_ends n b c (In Up) (Out Up) ne here there e w = InOut Up
opposite_ends n b c (In Up) (Out Down) ne here there e w = absurd (cc w)
opposite_ends n b c (In Up) (In Up) ne here there e w = absurd (ne e)
opposite_ends n b c (In Up) (In Down) ne here there e w = absurd (cc w)
opposite_ends n b c (In Down) (Out Up) ne here there e w = absurd (cc w)
opposite_ends n b c (In Down) (Out Down) ne here there e w = InOut Down
opposite_ends n b c (In Down) (In Up) ne here there e w = absurd (cc w)
opposite_ends n b c (In Down) (In Down) ne here there e w =
    let p = above n b here in let q = above n c there in absurd (ne (omega (arith, p, q, e)))
