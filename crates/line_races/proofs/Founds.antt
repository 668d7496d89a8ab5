-- What is found by the keys of the marks are the entries that are so related.
use Rattle.std.proofs.Common.{ℕ, ◌<◌, ◌≡◌, Bool, true, List, Option, Some, None}
use Rattle.std.proofs.Common.{refl, sym, ap, subst, ◌∙◌}
use Rattle.std.specs.Prelude.{option_map, slice_get}
use Rattle.std.proofs.lemmas.Bool.{false≢true}
use Rattle.line_plan.specs.Plans.{PlanFields}
use Rattle.line_law.specs.declared.call.Entry.{Entry}
use Rattle.word_laws.specs.TellsWord.{kind_told}
use Rattle.line_races.specs.Keys.{Key, is_key, key_at, other_end, other_key, own_key}
use Rattle.line_races.specs.Nearest.{last_found, left_key}
use Rattle.line_races.specs.Races.{AreRelated, FindsMark}
use Rattle.line_races.specs.declared.marks.Mark.{Mark}
use Rattle.line_races.proofs.KeyLaws.{IsOfKind, of_key, one_key, word_kind}
use Rattle.line_races.proofs.Lasts.{IsLastOf, IsNearestOf, last_is}

-- one entry stands at a position
pub one_entry : (o : Option Entry) (e x : Entry) → o ≡ Some e → o ≡ Some x → e ≡ x
one_entry o e x at other = cc

module _ (plan : PlanFields) (es : List Entry) (left : ℕ → Entry → Option Mark) (sought : Entry → Option Mark)
    (left_kinds : (i : ℕ) (e : Entry) → IsOfKind (left i e) (kind_told e.reply))
    (sought_kinds : (x : Entry) → IsOfKind (sought x) (kind_told x.reply)) where
  -- entry i has left the mark that entry j looks for
  abbrev Finds : ℕ → ℕ → Type 0
  Finds i j = AreRelated es (FindsMark plan (left i) sought) i j

  -- the key of a mark that is left here is this one
  abbrev test_at : Key → ℕ → Bool
  test_at key i = is_key (left_key plan (left i) (slice_get es i)) key

  marked : (i j : ℕ) (e x : Entry) (m : Mark) → i < j → slice_get es i ≡ Some e → slice_get es j ≡ Some x
      → sought x ≡ Some m → (o : Option Mark) → left i e ≡ o
      → is_key (option_map (key_at plan e.box_no e) o) (key_at plan (other_end plan x) x m) ≡ true → Finds i j
  marked i j e x m before at there seeks None leaves is = absurd (false≢true is)
  marked i j e x m before at there seeks (Some n) leaves is =
      let kind : kind_told e.reply ≡ word_kind n =
      subst (λ (o : Option Mark). IsOfKind o (kind_told e.reply)) leaves (left_kinds i e) in
      let other : kind_told x.reply ≡ word_kind m =
      subst (λ (o : Option Mark). IsOfKind o (kind_told x.reply)) seeks (sought_kinds x) in
      let of = of_key plan e x n m kind other is in
      record {
        earlier = before;
        first = e;
        second = x;
        first_at = at;
        second_at = there;
        related = record {
          apart = of.apart;
          word = of.word;
          mark = n;
          leaves = leaves;
          seeks = seeks ∙ ap Some (sym of.same);
        };
      }

  -- where the test holds, the mark was left
  found : (i j : ℕ) (x : Entry) (m : Mark) → i < j → slice_get es j ≡ Some x → sought x ≡ Some m
      → (o : Option Entry) → slice_get es i ≡ o
      → is_key (left_key plan (left i) o) (key_at plan (other_end plan x) x m) ≡ true → Finds i j
  found i j x m before there seeks None at is = absurd (false≢true is)
  found i j x m before there seeks (Some e) at is = marked i j e x m before at there seeks (left i e) refl is

  -- where the mark was left, the test holds
  tested : (i j : ℕ) (x : Entry) (m : Mark) → slice_get es j ≡ Some x → sought x ≡ Some m → Finds i j
      → test_at (key_at plan (other_end plan x) x m) i ≡ true
  tested i j x m there seeks finds =
      let same : finds.second ≡ x = one_entry (slice_get es j) finds.second x finds.second_at there in
      let related : FindsMark plan (left i) sought finds.first x =
      subst (λ (y : Entry). FindsMark plan (left i) sought finds.first y) same finds.related in
      let mark : Some related.mark ≡ Some m = sym related.seeks ∙ seeks in
      let leaves : left i finds.first ≡ Some m = related.leaves ∙ mark in
      let key : Key = key_at plan (other_end plan x) x m in
      ap (λ (o : Option Entry). is_key (left_key plan (left i) o) key) finds.first_at
      ∙ ap (λ (o : Option Mark). is_key (own_key plan o finds.first) key) leaves
      ∙ one_key plan finds.first x m related.apart related.word

  nearest_by : (j : ℕ) (x : Entry) (m : Mark) → slice_get es j ≡ Some x → sought x ≡ Some m
      → (o : Option ℕ) → IsLastOf (test_at (key_at plan (other_end plan x) x m)) j o
      → IsNearestOf (λ i. Finds i j) o
  nearest_by j x m there seeks None none = λ k finds.
      false≢true (sym (none k finds.earlier) ∙ tested k j x m there seeks finds)
  nearest_by j x m there seeks (Some i) last = (
    found i j x m last.before there seeks (slice_get es i) refl last.holds,
    λ k behind finds. false≢true (sym (last.none_behind k behind finds.earlier) ∙ tested k j x m there seeks finds),
  )

  nearest_for : (j : ℕ) (x : Entry) → slice_get es j ≡ Some x → (o : Option Mark) → sought x ≡ o
      → IsNearestOf (λ i. Finds i j) (last_found plan es left j (other_key plan o x))
  nearest_for j x there None seeks = λ k finds.
      let same : finds.second ≡ x = one_entry (slice_get es j) finds.second x finds.second_at there in
      let has : sought x ≡ Some finds.related.mark =
      subst (λ (y : Entry). sought y ≡ Some finds.related.mark) same finds.related.seeks in cc
  nearest_for j x there (Some m) seeks =
      nearest_by j x m there seeks _ (last_is (test_at (key_at plan (other_end plan x) x m)) j)

  -- what is found is the nearest entry that left the mark for which an entry looks
  pub nearest_found : (j : ℕ) (x : Entry) → slice_get es j ≡ Some x
      → IsNearestOf (λ i. AreRelated es (FindsMark plan (left i) sought) i j)
      (last_found plan es left j (other_key plan (sought x) x))
  nearest_found j x there = nearest_for j x there (sought x) refl
