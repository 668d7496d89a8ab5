-- Every call keeps what a section keeps.
use Rattle.std.proofs.Common.{◌≡◌, ℕ, ◌+◌, ◌<◌, Bool, true, false, cond, List, Option, Some, None, length, drop, refl}
use Rattle.std.proofs.Common.{sym, ap, subst, ◌∙◌, arith}
use Rattle.std.specs.Prelude.{◌==◌}
use Rattle.block_words.specs.Ways.{opposite}
use Rattle.block_words.specs.declared.Position.{Position}
use Rattle.block_words.specs.declared.Position.TheVariants as shows
use Rattle.block_words.specs.declared.Way.{Way}
use Rattle.block_words.specs.declared.Way.TheVariants.{Up, Down}
use Rattle.line_plan.specs.Frames.{BoxFields, signal_of}
use Rattle.line_plan.specs.Plans.{PlanFields}
use Rattle.line_plan.specs.Sections.{advance_of}
use Rattle.line_plan.specs.declared.berth.Berth.{Berth}
use Rattle.line_plan.specs.declared.section.Section.{Section}
use Rattle.line_plan.specs.declared.signal.Signal.{Signal}
use Rattle.line_plan.specs.declared.signal.To.TheVariants as leads
use Rattle.line_plan.specs.Frames.{way_to}
use Rattle.line_law.specs.declared.call.Act.{Act}
use Rattle.line_law.specs.declared.call.Call.{Call}
use Rattle.line_law.specs.declared.link.Link.{Link}
use Rattle.line_law.specs.declared.link.Link.TheVariants.{Out, In}
use Rattle.line_law.specs.declared.state.Bell.{Bell}
use Rattle.line_law.specs.declared.state.Block.{Block}
use Rattle.line_law.specs.declared.state.BoxState.{BoxState}
use Rattle.line_law.specs.declared.state.Incoming.{Incoming}
use Rattle.line_law.specs.declared.state.Passage.{Passage}
use Rattle.line_law.specs.declared.ways.ByWay.{ByWay}
use Rattle.line_law.specs.Arrivals.{next_number, next_train, portion_refusal, train_awaited, train_berthed}
use Rattle.line_law.specs.Arrivals.{train_cleared, train_parted}
use Rattle.line_law.specs.Bells.{awaited, heard, rung}
use Rattle.line_law.specs.Controls.{left_control}
use Rattle.line_law.specs.Decisions.{Decision, Told}
use Rattle.line_law.specs.Instruments.{line_turned, same_position}
use Rattle.line_law.specs.Law.{at_moment, link_of, box_plan_of}
use Rattle.line_law.specs.Levers.{is_unspent_clear, pulled, starter_link, starter_way}
use Rattle.line_law.specs.Lines.{AreNumbered, IsFirst, IsSectionBetween}
use Rattle.line_law.specs.Outcomes.{Moves, Passes, Overruns, Outcome, Refused, Rings, Hears, AwaitsBell, Turns}
use Rattle.line_law.specs.Outcomes.{AwaitsBlock, Pulls, PullsStarter, Puts, Brings, GoesTo, GoesAway, Enters}
use Rattle.line_law.specs.Outcomes.{AwaitsTrain, Berths, Parts, Clears, Winds, Releases}
use Rattle.line_law.specs.SectionFacts.{AfterElsewhere, AfterOwn, Keeps}
use Rattle.line_law.specs.Trains.{enter, holds, left_by, line_left}
use Rattle.line_law.specs.Ways.{of_way, with_way}
use Rattle.line_law.proofs.Boxes.{both_none}
use Rattle.line_law.proofs.Numbers.{heads, not_full, numbered_push, push_first, push_four}
use Rattle.line_law.proofs.Outcomes.{outcome_of}
use Rattle.line_law.proofs.Words.{of_way-with}

-- ---- what a box counts

-- two states of an incoming line with the same counts, the same position and the same portion
pub record SameNumbers (x y : Incoming) : Type 0 where
  pub turns : x.turns ≡ y.turns
  pub position : x.position ≡ y.position
  pub taken : x.taken ≡ y.taken
  pub portion : x.portion ≡ y.portion

-- another state of a box with the same counts
pub record LeavesCounts (here next : BoxState) : Type 0 where
  pub rung : next.rung ≡ here.rung
  pub sent : next.sent ≡ here.sent
  pub lines : (w : Way) → SameNumbers (of_way next.incoming w) (of_way here.incoming w)

same : (x : Incoming) → SameNumbers x x
same x = record { turns = refl; position = refl; taken = refl; portion = refl }

pub unchanged : (here : BoxState) → LeavesCounts here here
unchanged here = record { rung = refl; sent = refl; lines = λ w. same (of_way here.incoming w) }

pub pulled_counts : (here : BoxState) (lever : ℕ) (s : Option Signal) → LeavesCounts here (pulled here lever s)
pulled_counts here lever None = record { rung = refl; sent = refl; lines = λ w. same (of_way here.incoming w) }
pulled_counts here lever (Some s) = record { rung = refl; sent = refl; lines = λ w. same (of_way here.incoming w) }

left_same : (b : Option Berth) (place : ℕ) (line : Incoming) → SameNumbers (line_left b place line) line
left_same None place line = same line
left_same (Some berth) place line = go (berth.place == place) where
  go : (t : Bool) → SameNumbers (cond t (record line { control = left_control line.control }) line) line
  go true = record { turns = refl; position = refl; taken = refl; portion = refl }
  go false = record { turns = refl; position = refl; taken = refl; portion = refl }

pub left_counts : (bp : BoxFields) (here : BoxState) (s : Signal) → LeavesCounts here (left_by bp here s)
left_counts bp here s = record { rung = refl; sent = refl; lines = go } where
  go : (w : Way) → SameNumbers (of_way (left_by bp here s).incoming w) (of_way here.incoming w)
  go Up = left_same bp.berth_up s.from here.incoming.up
  go Down = left_same bp.berth_down s.from here.incoming.down

-- an incoming line is written with the same counts
written : (lines : ByWay Incoming) (v : Way) (x : Incoming) → SameNumbers x (of_way lines v) → (w : Way)
    → SameNumbers (of_way (with_way lines v x) w) (of_way lines w)
written lines Up x h Up = h
written lines Up x h Down = same lines.down
written lines Down x h Up = same lines.up
written lines Down x h Down = h

rear_like : (w : Way) (r r' a : BoxState) (b : Bell) (k : Block) (t : List Passage) → of_way r'.rung w ≡ of_way r.rung w
    → of_way r'.sent w ≡ of_way r.sent w → IsSectionBetween w r a b k t → IsSectionBetween w r' a b k t
rear_like w r r' a b k t er es h =
    record {
      rung = er ∙ h.rung;
      turns = h.turns;
      position = h.position;
      numbered = rw es h.numbered;
      four =
          h.four;
      portion = h.portion;
    }

rear_leaves : (w : Way) (r r' a : BoxState) (b : Bell) (k : Block) (t : List Passage) → LeavesCounts r r'
    → IsSectionBetween w r a b k t → IsSectionBetween w r' a b k t
rear_leaves w r r' a b k t same h =
    rear_like w r r' a b k t (ap (λ (x : ByWay ℕ). of_way x w) same.rung) (ap (λ (x : ByWay ℕ). of_way x w) same.sent) h

advance_like : (w : Way) (r a a' : BoxState) (b : Bell) (k : Block) (t : List Passage)
    → SameNumbers (of_way a'.incoming w) (of_way a.incoming w) → IsSectionBetween w r a b k t
    → IsSectionBetween w r a' b k t
advance_like w r a a' b k t s h =
    record {
      rung = h.rung;
      turns = s.turns ∙ h.turns;
      position = s.position ∙ h.position;
      numbered =
          rw s.taken h.numbered;
      four = h.four;
      portion = rw s.portion h.portion;
    }

-- the words of the section with the same counts
words_like : (w : Way) (r a : BoxState) (b b' : Bell) (k k' : Block) (t : List Passage) → b'.count ≡ b.count
    → k'.turns ≡ k.turns → k'.position ≡ k.position → IsSectionBetween w r a b k t → IsSectionBetween w r a b' k' t
words_like w r a b b' k k' t eb et ep h =
    record {
      rung = h.rung ∙ sym eb;
      turns = h.turns ∙ sym et;
      position = h.position ∙ sym ep;
      numbered =
          h.numbered;
      four = h.four;
      portion = h.portion;
    }

-- ---- the ways of lines

out_same : (v w : Way) → Link.Out v ≡ Link.Out w → v ≡ w
out_same v w e = cc

in_same : (v w : Way) → Link.In v ≡ Link.In w → v ≡ w
in_same v w e = cc

out_in : {A : Type 0} (v w : Way) → Link.Out v ≡ Link.In w → A
out_in v w e = absurd cc

in_out : {A : Type 0} (v w : Way) → Link.In v ≡ Link.Out w → A
in_out v w e = absurd cc

-- a way that isn't this one
apart_out : (v w : Way) → (Link.Out v ≡ Link.Out w → ⊥) → w ≡ opposite v
apart_out Up Up ne = absurd (ne refl)
apart_out Up Down ne = refl
apart_out Down Up ne = refl
apart_out Down Down ne = absurd (ne refl)

apart_in : (v w : Way) → (Link.In v ≡ Link.In w → ⊥) → w ≡ opposite v
apart_in Up Up ne = absurd (ne refl)
apart_in Up Down ne = refl
apart_in Down Up ne = refl
apart_in Down Down ne = absurd (ne refl)

other_kept : {A : Type 0} (both : ByWay A) (v w : Way) (x : A) → w ≡ opposite v
    → of_way (with_way both v x) w ≡ of_way both w
other_kept both Up Up x e = absurd cc
other_kept both Up Down x e = refl
other_kept both Down Up x e = refl
other_kept both Down Down x e = absurd cc

-- ---- the word functions

told_here : {W : Type 0} (c : Bool) (P : BoxState → W → Type 0) (x y : Told W) → P x.here x.word → P y.here y.word
    → P (cond c x y).here (cond c x y).word
told_here true P x y p q = p
told_here false P x y p q = q

here_of : {W : Type 0} (c : Bool) (P : BoxState → Type 0) (x y : Told W) → P x.here → P y.here → P (cond c x y).here
here_of true P x y p q = p
here_of false P x y p q = q

rung_own : (w : Way) (r a : BoxState) (code count : ℕ) (u : Option ℕ) (k : Block) (t : List Passage)
    → IsSectionBetween w r a (record { count = count; unheard = u }) k t
    → IsSectionBetween w (rung r w code count u).here a (rung r w code count u).word k t
rung_own w r a code count (Some held) k t h = h
rung_own w r a code count None k t h =
    record {
      rung = of_way-with r.rung w (count + 1);
      turns = h.turns;
      position = h.position;
      numbered =
          h.numbered;
      four = h.four;
      portion = h.portion;
    }

rung_off : (w v : Way) (r a : BoxState) (code count : ℕ) (u : Option ℕ) (b : Bell) (k : Block) (t : List Passage)
    → w ≡ opposite v → IsSectionBetween w r a b k t → IsSectionBetween w (rung r v code count u).here a b k t
rung_off w v r a code count (Some held) b k t e h = h
rung_off w v r a code count None b k t e h = rear_like w r _ a b k t (other_kept r.rung v w (count + 1) e) refl h

heard_own : (w : Way) (r a : BoxState) (count : ℕ) (u : Option ℕ) (k : Block) (t : List Passage)
    → IsSectionBetween w r a (record { count = count; unheard = u }) k t
    → IsSectionBetween w r (heard a count u).here (heard a count u).word k t
heard_own w r a count (Some code) k t h = words_like w r a _ _ k k t refl refl refl h
heard_own w r a count None k t h = words_like w r a _ _ k k t refl refl refl h

heard_here : (P : BoxState → Type 0) (here : BoxState) (count : ℕ) (u : Option ℕ) → P here → P (heard here count u).here
heard_here P here count (Some code) p = p
heard_here P here count None p = p

awaited_own : (w : Way) (r a : BoxState) (code count : ℕ) (u : Option ℕ) (k : Block) (t : List Passage)
    → IsSectionBetween w r a (record { count = count; unheard = u }) k t
    → IsSectionBetween w r (awaited a code count u).here (awaited a code count u).word k t
awaited_own w r a code count (Some held) k t h =
    told_here (held == code) (λ here (x : Bell). IsSectionBetween w r here x k t) _ _
    (words_like w r a _ _ k k t refl refl refl h) h
awaited_own w r a code count None k t h = words_like w r a _ _ k k t refl refl refl h

awaited_here : (P : BoxState → Type 0) (here : BoxState) (code count : ℕ) (u : Option ℕ) → P here
    → P (awaited here code count u).here
awaited_here P here code count (Some held) p = here_of (held == code) P _ _ p p
awaited_here P here code count None p = p

-- a turn of the commutator with its instrument
pub turned_own : (w : Way) (r a : BoxState) (b : Bell) (k : Block) (t : List Passage) (position : Position)
    → IsSectionBetween w r a b k t
    → IsSectionBetween w r
    (record a { incoming = with_way a.incoming w (line_turned (of_way a.incoming w) position (k.turns + 1)) }) b
    (record { turns = k.turns + 1; position = position; spent = false }) t
turned_own w r a b k t position h =
    go position where
      go : (q : Position) → let line : Incoming = line_turned (of_way a.incoming w) q (k.turns + 1) in
          IsSectionBetween w r (record a { incoming = with_way a.incoming w line }) b
          (record { turns = k.turns + 1; position = q; spent = false }) t
      go shows.Normal =
          record {
            rung = h.rung;
            turns = ap (λ (x : Incoming). x.turns) (of_way-with a.incoming w _);
            position =
                ap (λ (x : Incoming). x.position) (of_way-with a.incoming w _);
            numbered =
                rw (of_way-with a.incoming w _) h.numbered;
            four = h.four;
            portion =
                rw (of_way-with a.incoming w _) h.portion;
          }
      go shows.LineClear =
          record {
            rung = h.rung;
            turns = ap (λ (x : Incoming). x.turns) (of_way-with a.incoming w _);
            position =
                ap (λ (x : Incoming). x.position) (of_way-with a.incoming w _);
            numbered =
                rw (of_way-with a.incoming w _) h.numbered;
            four = h.four;
            portion =
                rw (of_way-with a.incoming w _) h.portion;
          }
      go shows.TrainOnLine =
          record {
            rung = h.rung;
            turns = ap (λ (x : Incoming). x.turns) (of_way-with a.incoming w _);
            position =
                ap (λ (x : Incoming). x.position) (of_way-with a.incoming w _);
            numbered =
                rw (of_way-with a.incoming w _) h.numbered;
            four = h.four;
            portion =
                rw (of_way-with a.incoming w _) h.portion;
          }

turned_off : (w v : Way) (r a : BoxState) (b : Bell) (k : Block) (t : List Passage) (position : Position) (n : ℕ)
    → w ≡ opposite v → IsSectionBetween w r a b k t
    → IsSectionBetween w r
    (record a { incoming = with_way a.incoming v (line_turned (of_way a.incoming v) position n) }) b k t
turned_off w v r a b k t position n e h =
    advance_like w r a _ b k t
    (rw (other_kept a.incoming v w (line_turned (of_way a.incoming v) position n) e) (same (of_way a.incoming w))) h

-- a train enters the section
entered_own : (w : Way) (r left a : BoxState) (b : Bell) (k : Block) (t : List Passage) (train : ℕ)
    → LeavesCounts r left → IsSectionBetween w r a b k t
    → IsSectionBetween w (enter r left w train t).here a b k (enter r left w train t).word
entered_own w r left a b k t train leaves h = go (holds t (of_way r.sent w + 1)) refl where
  go : (full : Bool) → holds t (of_way r.sent w + 1) ≡ full
      → IsSectionBetween w (enter r left w train t).here a b k (enter r left w train t).word
  go true full = rw full h
  go false full =
      let raised : of_way (with_way left.sent w (of_way r.sent w + 1)) w ≡ of_way r.sent w + 1 =
      of_way-with left.sent w (of_way r.sent w + 1) in
      let few : length t < 4 = not_full (of_way a.incoming w).taken (of_way r.sent w) t h.numbered h.four full in
      let rung : of_way left.rung w ≡ b.count = ap (λ (x : ByWay ℕ). of_way x w) leaves.rung ∙ h.rung in
      rw full (record {
        rung = rung;
        turns = h.turns;
        position = h.position;
        numbered = rw raised (numbered_push (of_way a.incoming w).taken (of_way r.sent w) train t h.numbered);
        four = push_four t _ few;
        portion = push_first (of_way a.incoming w).portion t _ h.portion;
      })

entered_off : (w v : Way) (r left a : BoxState) (b : Bell) (k : Block) (t : List Passage) (train : ℕ)
    (line : List Passage) → w ≡ opposite v → LeavesCounts r left → IsSectionBetween w r a b k t
    → IsSectionBetween w (enter r left v train line).here a b k t
entered_off w v r left a b k t train line e leaves h =
    here_of (holds line (of_way r.sent v + 1)) (λ here. IsSectionBetween w here a b k t) _ _ h
    (rear_like w r _ a b k t (ap (λ (x : ByWay ℕ). of_way x w) leaves.rung)
    (other_kept left.sent v w (of_way r.sent v + 1) e ∙ ap (λ (x : ByWay ℕ). of_way x w) leaves.sent) h)

-- the box in advance of some other section sends a train
entered_there : (w v : Way) (r a left : BoxState) (b : Bell) (k : Block) (t : List Passage) (train : ℕ)
    (line : List Passage) → LeavesCounts a left → IsSectionBetween w r a b k t
    → IsSectionBetween w r (enter a left v train line).here b k t
entered_there w v r a left b k t train line leaves h =
    here_of (holds line (of_way a.sent v + 1)) (λ here. IsSectionBetween w r here b k t) _ _ h
    (advance_like w r a _ b k t (leaves.lines w) h)

free_portion : (p : Option ℕ) → portion_refusal p ≡ None → p ≡ None
free_portion None e = refl
free_portion (Some train) e = absurd cc

-- a train comes whole into the berth
berthed_own : (w : Way) (r a : BoxState) (b : Bell) (k : Block) (t : List Passage) (place : ℕ) (f : Option ℕ)
    → next_train a w t ≡ f → (of_way a.incoming w).portion ≡ None → IsSectionBetween w r a b k t
    → IsSectionBetween w r (train_berthed f a w place (next_number a w) t).here b k
    (train_berthed f a w place (next_number a w) t).word
berthed_own w r a b k t place None e none h = h
berthed_own w r a b k t place (Some train) e none h =
    let has = heads (next_number a w) train (of_way a.incoming w).taken (of_way r.sent w) t e h.numbered in
    let is = of_way-with a.incoming w
    (record (of_way a.incoming w) { taken = next_number a w; control = _; ready_at = None }) in
    record {
      rung = h.rung;
      turns = ap (λ (x : Incoming). x.turns) is ∙ h.turns;
      position = ap (λ (x : Incoming). x.position) is ∙ h.position;
      numbered =
          subst (λ (n : ℕ). AreNumbered n (of_way r.sent w) (drop 1 t)) (sym (ap (λ (x : Incoming). x.taken) is))
          has.rest;
      four = omega (arith, has.few, h.four);
      portion = subst (λ (p : Option ℕ). IsFirst p (drop 1 t)) (sym (ap (λ (x : Incoming). x.portion) is ∙ none)) tt;
    }

parted_own : (w : Way) (r a : BoxState) (b : Bell) (k : Block) (t : List Passage) (place : ℕ) (f : Option ℕ)
    → next_train a w t ≡ f → IsSectionBetween w r a b k t
    → IsSectionBetween w r (train_parted f a w place (next_number a w) t).here b k
    (train_parted f a w place (next_number a w) t).word
parted_own w r a b k t place None e h = h
parted_own w r a b k t place (Some train) e h =
    let has = heads (next_number a w) train (of_way a.incoming w).taken (of_way r.sent w) t e h.numbered in
    let is = of_way-with a.incoming w
    (record (of_way a.incoming w) { portion = Some train; control = _; ready_at = None }) in
    record {
      rung = h.rung;
      turns = ap (λ (x : Incoming). x.turns) is ∙ h.turns;
      position = ap (λ (x : Incoming). x.position) is ∙ h.position;
      numbered =
          subst (λ (n : ℕ). AreNumbered n (of_way r.sent w) t) (sym (ap (λ (x : Incoming). x.taken) is)) h.numbered;
      four = h.four;
      portion = subst (λ (p : Option ℕ). IsFirst p t) (sym (ap (λ (x : Incoming). x.portion) is)) has.first;
    }

cleared_own : (w : Way) (r a : BoxState) (b : Bell) (k : Block) (t : List Passage) (f : Option ℕ) → next_train a w t ≡ f
    → IsSectionBetween w r a b k t
    → IsSectionBetween w r (train_cleared f a w (next_number a w) t).here b k
    (train_cleared f a w (next_number a w) t).word
cleared_own w r a b k t None e h = h
cleared_own w r a b k t (Some train) e h =
    let has = heads (next_number a w) train (of_way a.incoming w).taken (of_way r.sent w) t e h.numbered in
    let is = of_way-with a.incoming w (record (of_way a.incoming w) { taken = next_number a w; portion = None }) in
    record {
      rung = h.rung;
      turns = ap (λ (x : Incoming). x.turns) is ∙ h.turns;
      position = ap (λ (x : Incoming). x.position) is ∙ h.position;
      numbered =
          subst (λ (n : ℕ). AreNumbered n (of_way r.sent w) (drop 1 t)) (sym (ap (λ (x : Incoming). x.taken) is))
          has.rest;
      four = omega (arith, has.few, h.four);
      portion = subst (λ (p : Option ℕ). IsFirst p (drop 1 t)) (sym (ap (λ (x : Incoming). x.portion) is)) tt;
    }

awaits_own : (w : Way) (r a : BoxState) (b : Bell) (k : Block) (t : List Passage) (j : ℕ) (f : Option ℕ)
    → IsSectionBetween w r a b k t → IsSectionBetween w r (train_awaited f a j t).here b k (train_awaited f a j t).word
awaits_own w r a b k t j None h = h
awaits_own w r a b k t j (Some train) h = h

awaits_here : (P : BoxState → Type 0) (here : BoxState) (j : ℕ) (line : List Passage) (f : Option ℕ) → P here
    → P (train_awaited f here j line).here
awaits_here P here j line None p = p
awaits_here P here j line (Some train) p = p

-- an arrival on another line
line_off : (w v : Way) (r a next : BoxState) (b : Bell) (k : Block) (t : List Passage) (x : Incoming)
    → next.incoming ≡ with_way a.incoming v x → w ≡ opposite v → IsSectionBetween w r a b k t
    → IsSectionBetween w r next b k t
line_off w v r a next b k t x is e h =
    let kept : of_way next.incoming w ≡ of_way a.incoming w =
    ap (λ (y : ByWay Incoming). of_way y w) is ∙ other_kept a.incoming v w x e in
    advance_like w r a next b k t (rw kept (same (of_way a.incoming w))) h

berthed_off : (w v : Way) (r a : BoxState) (b : Bell) (k : Block) (t line : List Passage) (place j : ℕ) (f : Option ℕ)
    → w ≡ opposite v → IsSectionBetween w r a b k t → IsSectionBetween w r (train_berthed f a v place j line).here b k t
berthed_off w v r a b k t line place j None e h = h
berthed_off w v r a b k t line place j (Some train) e h = line_off w v r a _ b k t _ refl e h

parted_off : (w v : Way) (r a : BoxState) (b : Bell) (k : Block) (t line : List Passage) (place j : ℕ) (f : Option ℕ)
    → w ≡ opposite v → IsSectionBetween w r a b k t → IsSectionBetween w r (train_parted f a v place j line).here b k t
parted_off w v r a b k t line place j None e h = h
parted_off w v r a b k t line place j (Some train) e h = line_off w v r a _ b k t _ refl e h

cleared_off : (w v : Way) (r a : BoxState) (b : Bell) (k : Block) (t line : List Passage) (j : ℕ) (f : Option ℕ)
    → w ≡ opposite v → IsSectionBetween w r a b k t → IsSectionBetween w r (train_cleared f a v j line).here b k t
cleared_off w v r a b k t line j None e h = h
cleared_off w v r a b k t line j (Some train) e h = line_off w v r a _ b k t _ refl e h

-- what arrives changes nothing that a rear box counts
berthed_counts : (f : Option ℕ) (here : BoxState) (v : Way) (place j : ℕ) (line : List Passage) (P : BoxState → Type 0)
    → ((next : BoxState) → next.rung ≡ here.rung → next.sent ≡ here.sent → P next)
    → P (train_berthed f here v place j line).here
berthed_counts None here v place j line P h = h _ refl refl
berthed_counts (Some train) here v place j line P h = h _ refl refl

parted_counts : (f : Option ℕ) (here : BoxState) (v : Way) (place j : ℕ) (line : List Passage) (P : BoxState → Type 0)
    → ((next : BoxState) → next.rung ≡ here.rung → next.sent ≡ here.sent → P next)
    → P (train_parted f here v place j line).here
parted_counts None here v place j line P h = h _ refl refl
parted_counts (Some train) here v place j line P h = h _ refl refl

cleared_counts : (f : Option ℕ) (here : BoxState) (v : Way) (j : ℕ) (line : List Passage) (P : BoxState → Type 0)
    → ((next : BoxState) → next.rung ≡ here.rung → next.sent ≡ here.sent → P next)
    → P (train_cleared f here v j line).here
cleared_counts None here v j line P h = h _ refl refl
cleared_counts (Some train) here v j line P h = h _ refl refl

-- the line of a call that moves a train past a starter
moves_link : (bp : BoxFields) (here : BoxState) (act : Act) (lever : ℕ) (signal : Signal) (way : Way)
    → signal_of bp lever ≡ Some signal → signal.to ≡ leads.Section way → Moves here lever signal act
    → link_of bp act ≡ Out way
moves_link bp here act lever signal way e to (Passes free) =
    ap (λ (s : Option Signal). starter_link (starter_way s)) e ∙ ap (λ (t : _). starter_link (way_to t)) to
moves_link bp here act lever signal way e to (Overruns free) =
    ap (λ (s : Option Signal). starter_link (starter_way s)) e ∙ ap (λ (t : _). starter_link (way_to t)) to

-- ---- the rear box

rear_own : (w : Way) (plan : PlanFields) (bp : BoxFields) (r a : BoxState) (b : Bell) (k : Block) (t : List Passage)
    (act : Act) (d : Decision) → Outcome plan bp r act d → link_of bp act ≡ Out w → IsSectionBetween w r a b k t
    → AfterOwn d (λ h b k t. IsSectionBetween w h a b k t) b k t
rear_own w plan bp r a b k t act d (Refused x reply refused) link h = h
rear_own w plan bp r a b k t act d (Rings side code) link h =
    subst (λ (v : Way). IsSectionBetween w (rung r v code b.count b.unheard).here a
    (rung r v code b.count b.unheard).word k t) (sym (out_same side w link))
    (rung_own w r a code b.count b.unheard k t h)
rear_own w plan bp r a b k t act d (Hears side) link h = in_out (opposite side) w link
rear_own w plan bp r a b k t act d (AwaitsBell side code) link h = in_out (opposite side) w link
rear_own w plan bp r a b k t act d (Turns way position berth e free) link h = in_out way w link
rear_own w plan bp r a b k t act d (AwaitsBlock way position) link h =
    told_here (same_position k.position position) (λ here (x : Block). IsSectionBetween w here a b x t) _ _ h h
rear_own w plan bp r a b k t act d (Pulls lever e free) link h =
    rear_leaves w r _ a b k t (pulled_counts r lever (signal_of bp lever)) h
rear_own w plan bp r a b k t act d (PullsStarter lever way e free) link h =
    told_here (is_unspent_clear k) (λ here (x : Block). IsSectionBetween w here a b x t) _ _
    (rear_leaves w r _ a b _ t (pulled_counts r lever (signal_of bp lever))
    (words_like w r a b b k _ t refl refl refl h)) (words_like w r a b b k _ t refl refl refl h)
rear_own w plan bp r a b k t act d (Puts lever free) link h = rear_like w r _ a b k t refl refl h
rear_own w plan bp r a b k t act d (Brings train free) link h = rear_like w r _ a b k t refl refl h
rear_own w plan bp r a b k t act d (GoesTo x lever signal train place e to there moves) link h =
    rear_like w r _ a b k t refl refl h
rear_own w plan bp r a b k t act d (GoesAway x lever signal train e to there moves) link h =
    rear_like w r _ a b k t refl refl h
rear_own w plan bp r a b k t act d (Enters x lever signal train way e to there moves) link h =
    let is : way ≡ w = out_same way w (sym (moves_link bp r act lever signal way e to moves) ∙ link) in
    subst (λ (v : Way). IsSectionBetween w (enter r (left_by bp r signal) v train t).here a b k
    (enter r (left_by bp r signal) v train t).word) (sym is)
    (entered_own w r (left_by bp r signal) a b k t train (left_counts bp r signal) h)
rear_own w plan bp r a b k t act d (AwaitsTrain way) link h = in_out way w link
rear_own w plan bp r a b k t act d (Berths way berth e free) link h = in_out way w link
rear_own w plan bp r a b k t act d (Parts way berth e free) link h = in_out way w link
rear_own w plan bp r a b k t act d (Clears way free) link h = in_out way w link
rear_own w plan bp r a b k t act d (Winds way free) link h = in_out way w link
rear_own w plan bp r a b k t act d (Releases way free) link h = in_out way w link

rear_off : (w : Way) (plan : PlanFields) (bp : BoxFields) (r a : BoxState) (b : Bell) (k : Block) (t : List Passage)
    (act : Act) (d : Decision) → Outcome plan bp r act d → (link_of bp act ≡ Out w → ⊥) → IsSectionBetween w r a b k t
    → AfterElsewhere d (λ h. IsSectionBetween w h a b k t)
rear_off w plan bp r a b k t act d (Refused x reply refused) off h = h
rear_off w plan bp r a b k t act d (Rings side code) off h =
    λ bell. rung_off w side r a code bell.count bell.unheard b k t (apart_out side w off) h
rear_off w plan bp r a b k t act d (Hears side) off h =
    λ bell. heard_here (λ here. IsSectionBetween w here a b k t) r bell.count bell.unheard h
rear_off w plan bp r a b k t act d (AwaitsBell side code) off h =
    λ bell. awaited_here (λ here. IsSectionBetween w here a b k t) r code bell.count bell.unheard h
rear_off w plan bp r a b k t act d (Turns way position berth e free) off h =
    λ block. rear_like w r _ a b k t refl refl h
rear_off w plan bp r a b k t act d (AwaitsBlock way position) off h =
    λ block. here_of (same_position block.position position) (λ here. IsSectionBetween w here a b k t) _ _ h h
rear_off w plan bp r a b k t act d (Pulls lever e free) off h =
    rear_leaves w r _ a b k t (pulled_counts r lever (signal_of bp lever)) h
rear_off w plan bp r a b k t act d (PullsStarter lever way e free) off h =
    λ block. here_of (is_unspent_clear block) (λ here. IsSectionBetween w here a b k t) _ _
    (rear_leaves w r _ a b k t (pulled_counts r lever (signal_of bp lever)) h) h
rear_off w plan bp r a b k t act d (Puts lever free) off h = rear_like w r _ a b k t refl refl h
rear_off w plan bp r a b k t act d (Brings train free) off h = rear_like w r _ a b k t refl refl h
rear_off w plan bp r a b k t act d (GoesTo x lever signal train place e to there moves) off h =
    rear_like w r _ a b k t refl refl h
rear_off w plan bp r a b k t act d (GoesAway x lever signal train e to there moves) off h =
    rear_like w r _ a b k t refl refl h
rear_off w plan bp r a b k t act d (Enters x lever signal train way e to there moves) off h =
    let apart = apart_out way w (λ f. off (moves_link bp r act lever signal way e to moves ∙ f)) in
    λ line. entered_off w way r (left_by bp r signal) a b k t train line apart (left_counts bp r signal) h
rear_off w plan bp r a b k t act d (AwaitsTrain way) off h =
    λ line. awaits_here (λ here. IsSectionBetween w here a b k t) r (next_number r way) line (next_train r way line) h
rear_off w plan bp r a b k t act d (Berths way berth e free) off h =
    λ line. berthed_counts (next_train r way line) r way berth.place (next_number r way) line
    (λ here. IsSectionBetween w here a b k t)
    (λ next er es. rear_like w r next a b k t (ap (λ (x : ByWay ℕ). of_way x w) er)
    (ap (λ (x : ByWay ℕ). of_way x w) es) h)
rear_off w plan bp r a b k t act d (Parts way berth e free) off h =
    λ line. parted_counts (next_train r way line) r way berth.place (next_number r way) line
    (λ here. IsSectionBetween w here a b k t)
    (λ next er es. rear_like w r next a b k t (ap (λ (x : ByWay ℕ). of_way x w) er)
    (ap (λ (x : ByWay ℕ). of_way x w) es) h)
rear_off w plan bp r a b k t act d (Clears way free) off h =
    λ line. cleared_counts (next_train r way line) r way (next_number r way) line
    (λ here. IsSectionBetween w here a b k t)
    (λ next er es. rear_like w r next a b k t (ap (λ (x : ByWay ℕ). of_way x w) er)
    (ap (λ (x : ByWay ℕ). of_way x w) es) h)
rear_off w plan bp r a b k t act d (Winds way free) off h = rear_like w r _ a b k t refl refl h
rear_off w plan bp r a b k t act d (Releases way free) off h = rear_like w r _ a b k t refl refl h

-- ---- the box in advance

advance_own : (w : Way) (plan : PlanFields) (bp : BoxFields) (r a : BoxState) (b : Bell) (k : Block) (t : List Passage)
    (act : Act) (d : Decision) → Outcome plan bp a act d → link_of bp act ≡ In w → IsSectionBetween w r a b k t
    → AfterOwn d (λ h b k t. IsSectionBetween w r h b k t) b k t
advance_own w plan bp r a b k t act d (Refused x reply refused) link h = h
advance_own w plan bp r a b k t act d (Rings side code) link h = out_in side w link
advance_own w plan bp r a b k t act d (Hears side) link h = heard_own w r a b.count b.unheard k t h
advance_own w plan bp r a b k t act d (AwaitsBell side code) link h = awaited_own w r a code b.count b.unheard k t h
advance_own w plan bp r a b k t act d (Turns way position berth e free) link h =
    subst (λ (v : Way). IsSectionBetween w r
    (record a { incoming = with_way a.incoming v (line_turned (of_way a.incoming v) position (k.turns + 1)) }) b
    (record { turns = k.turns + 1; position = position; spent = false }) t)
    (sym (in_same way w link)) (turned_own w r a b k t position h)
advance_own w plan bp r a b k t act d (AwaitsBlock way position) link h = out_in way w link
advance_own w plan bp r a b k t act d (Pulls lever e free) link h =
    advance_like w r a _ b k t ((pulled_counts a lever (signal_of bp lever)).lines w) h
advance_own w plan bp r a b k t act d (PullsStarter lever way e free) link h =
    out_in way w (sym (ap starter_link e) ∙ link)
advance_own w plan bp r a b k t act d (Puts lever free) link h =
    advance_like w r a _ b k t (same (of_way a.incoming w)) h
advance_own w plan bp r a b k t act d (Brings train free) link h =
    advance_like w r a _ b k t (same (of_way a.incoming w)) h
advance_own w plan bp r a b k t act d (GoesTo x lever signal train place e to there moves) link h =
    advance_like w r a _ b k t ((left_counts bp a signal).lines w) h
advance_own w plan bp r a b k t act d (GoesAway x lever signal train e to there moves) link h =
    advance_like w r a _ b k t ((left_counts bp a signal).lines w) h
advance_own w plan bp r a b k t act d (Enters x lever signal train way e to there moves) link h =
    out_in way w (sym (moves_link bp a act lever signal way e to moves) ∙ link)
advance_own w plan bp r a b k t act d (AwaitsTrain way) link h =
    awaits_own w r a b k t (next_number a way) (next_train a way t) h
advance_own w plan bp r a b k t act d (Berths way berth e free) link h =
    let is = in_same way w link in
    let none : (of_way a.incoming w).portion ≡ None =
    subst (λ (v : Way). (of_way a.incoming v).portion ≡ None) is (free_portion _ (both_none _ _ free).0) in
    subst (λ (v : Way). IsSectionBetween w r (train_berthed (next_train a v t) a v berth.place (next_number a v) t).here
    b k (train_berthed (next_train a v t) a v berth.place (next_number a v) t).word)
    (sym is) (berthed_own w r a b k t berth.place (next_train a w t) refl none h)
advance_own w plan bp r a b k t act d (Parts way berth e free) link h =
    subst (λ (v : Way). IsSectionBetween w r (train_parted (next_train a v t) a v berth.place (next_number a v) t).here
    b k (train_parted (next_train a v t) a v berth.place (next_number a v) t).word)
    (sym (in_same way w link)) (parted_own w r a b k t berth.place (next_train a w t) refl h)
advance_own w plan bp r a b k t act d (Clears way free) link h =
    subst (λ (v : Way). IsSectionBetween w r (train_cleared (next_train a v t) a v (next_number a v) t).here b k
    (train_cleared (next_train a v t) a v (next_number a v) t).word)
    (sym (in_same way w link)) (cleared_own w r a b k t (next_train a w t) refl h)
advance_own w plan bp r a b k t act d (Winds way free) link h =
    advance_like w r a _ b k t
    (written a.incoming way _ (record { turns = refl; position = refl; taken = refl; portion = refl }) w) h
advance_own w plan bp r a b k t act d (Releases way free) link h =
    advance_like w r a _ b k t
    (written a.incoming way _ (record { turns = refl; position = refl; taken = refl; portion = refl }) w) h

advance_off : (w : Way) (plan : PlanFields) (bp : BoxFields) (r a : BoxState) (b : Bell) (k : Block) (t : List Passage)
    (act : Act) (d : Decision) → Outcome plan bp a act d → (link_of bp act ≡ In w → ⊥) → IsSectionBetween w r a b k t
    → AfterElsewhere d (λ h. IsSectionBetween w r h b k t)
advance_off w plan bp r a b k t act d (Refused x reply refused) off h = h
advance_off w plan bp r a b k t act d (Rings side code) off h = λ bell. rung_there bell.unheard bell.count where
  rung_there : (u : Option ℕ) (count : ℕ) → IsSectionBetween w r (rung a side code count u).here b k t
  rung_there (Some held) count = h
  rung_there None count = advance_like w r a _ b k t (same (of_way a.incoming w)) h
advance_off w plan bp r a b k t act d (Hears side) off h =
    λ bell. heard_here (λ here. IsSectionBetween w r here b k t) a bell.count bell.unheard h
advance_off w plan bp r a b k t act d (AwaitsBell side code) off h =
    λ bell. awaited_here (λ here. IsSectionBetween w r here b k t) a code bell.count bell.unheard h
advance_off w plan bp r a b k t act d (Turns way position berth e free) off h =
    λ block. turned_off w way r a b k t position (block.turns + 1) (apart_in way w off) h
advance_off w plan bp r a b k t act d (AwaitsBlock way position) off h =
    λ block. here_of (same_position block.position position) (λ here. IsSectionBetween w r here b k t) _ _ h h
advance_off w plan bp r a b k t act d (Pulls lever e free) off h =
    advance_like w r a _ b k t ((pulled_counts a lever (signal_of bp lever)).lines w) h
advance_off w plan bp r a b k t act d (PullsStarter lever way e free) off h =
    λ block. here_of (is_unspent_clear block) (λ here. IsSectionBetween w r here b k t) _ _
    (advance_like w r a _ b k t ((pulled_counts a lever (signal_of bp lever)).lines w) h) h
advance_off w plan bp r a b k t act d (Puts lever free) off h =
    advance_like w r a _ b k t (same (of_way a.incoming w)) h
advance_off w plan bp r a b k t act d (Brings train free) off h =
    advance_like w r a _ b k t (same (of_way a.incoming w)) h
advance_off w plan bp r a b k t act d (GoesTo x lever signal train place e to there moves) off h =
    advance_like w r a _ b k t ((left_counts bp a signal).lines w) h
advance_off w plan bp r a b k t act d (GoesAway x lever signal train e to there moves) off h =
    advance_like w r a _ b k t ((left_counts bp a signal).lines w) h
advance_off w plan bp r a b k t act d (Enters x lever signal train way e to there moves) off h =
    λ line. entered_there w way r a (left_by bp a signal) b k t train line (left_counts bp a signal) h
advance_off w plan bp r a b k t act d (AwaitsTrain way) off h =
    λ line. awaits_here (λ here. IsSectionBetween w r here b k t) a (next_number a way) line (next_train a way line) h
advance_off w plan bp r a b k t act d (Berths way berth e free) off h =
    λ line. berthed_off w way r a b k t line berth.place (next_number a way) (next_train a way line)
    (apart_in way w off) h
advance_off w plan bp r a b k t act d (Parts way berth e free) off h =
    λ line. parted_off w way r a b k t line berth.place (next_number a way) (next_train a way line) (apart_in way w off)
    h
advance_off w plan bp r a b k t act d (Clears way free) off h =
    λ line. cleared_off w way r a b k t line (next_number a way) (next_train a way line) (apart_in way w off) h
advance_off w plan bp r a b k t act d (Winds way free) off h =
    advance_like w r a _ b k t
    (written a.incoming way _ (record { turns = refl; position = refl; taken = refl; portion = refl }) w) h
advance_off w plan bp r a b k t act d (Releases way free) off h =
    advance_like w r a _ b k t
    (written a.incoming way _ (record { turns = refl; position = refl; taken = refl; portion = refl }) w) h

-- ---- any call

-- a box at the moment of a call has the counts that it had
rear_at : (w : Way) (r a : BoxState) (b : Bell) (k : Block) (t : List Passage) (moment : ℕ)
    → IsSectionBetween w r a b k t → IsSectionBetween w (at_moment r moment) a b k t
rear_at w r a b k t moment h = rear_like w r _ a b k t refl refl h

advance_at : (w : Way) (r a : BoxState) (b : Bell) (k : Block) (t : List Passage) (moment : ℕ)
    → IsSectionBetween w r a b k t → IsSectionBetween w r (at_moment a moment) b k t
advance_at w r a b k t moment h = advance_like w r a _ b k t (same (of_way a.incoming w)) h

-- every call keeps what a section keeps
pub section_keeps : (plan : PlanFields) (x : Section) (call : Call) → Keeps (IsSectionBetween x.way) plan x call
section_keeps plan x call =
    record {
      rear_own = λ link r a b k t h.
          let here = at_moment r call.moment in
          rear_own x.way plan (box_plan_of plan x.rear) here a b k t call.act _
          (outcome_of plan (box_plan_of plan x.rear) call.act here) link (rear_at x.way r a b k t call.moment h);
      rear_off = λ link r a b k t h.
          let here = at_moment r call.moment in
          rear_off x.way plan (box_plan_of plan x.rear) here a b k t call.act _
          (outcome_of plan (box_plan_of plan x.rear) call.act here) link (rear_at x.way r a b k t call.moment h);
      advance_own = λ link r a b k t h.
          let here = at_moment a call.moment in
          advance_own x.way plan (box_plan_of plan (advance_of x)) r here b k t call.act _
          (outcome_of plan (box_plan_of plan (advance_of x)) call.act here) link
          (advance_at x.way r a b k t call.moment h);
      advance_off = λ link r a b k t h.
          let here = at_moment a call.moment in
          advance_off x.way plan (box_plan_of plan (advance_of x)) r here b k t call.act _
          (outcome_of plan (box_plan_of plan (advance_of x)) call.act here) link
          (advance_at x.way r a b k t call.moment h);
    }
