-- Joining posts: of a man with one that was lent, and of all men.
use Rattle.std.proofs.Common.{◌≡◌, ◌≢◌, ⊎_elim, ◌==◌, true, false, get_or, ℕ, ◌<◌, List, [], ◌∷◌, ◌++◌}
use Rattle.std.proofs.Common.{length, Option, Some, sym, refl, ap, ◌∙◌, subst, arith, append_assoc, append-nil}
use Rattle.std.proofs.Common.{length-append}
use Rattle.std.specs.Prelude.{IfSome}
use Rattle.std.proofs.lemmas.Bool.Decides.{eqb_tells}
use Rattle.std.proofs.lemmas.List.{get_or_push, get_or_append_left}
use Rattle.atomic_table.specs.Seated.{TableId}
use Rattle.line_plan.specs.Plans.{IsPlan, PlanFields}
use Rattle.line_law.specs.declared.call.Entry.{Entry}
use Rattle.line_law.specs.History.{IsLegal, part_of}
use Rattle.box_desk.specs.Desks.{DeskFields}
use Rattle.train_register.specs.Registers.{RegisterFields, no_register, register_at}
use Rattle.instrument_rule.specs.declared.view.View.{View}
use Rattle.instrument_rule.specs.Rule.{Seen}
use Rattle.instrument_rule.specs.Told.{LegalFor}
use Rattle.instrument_rule.specs.Views.{both_views, held, settled}
use Rattle.instrument_rule.proofs.Parts.{own_box}
use Rattle.instrument_rule.proofs.Views.{held_append, held_first}
use Rattle.signalman_seats.specs.declared.notes.PlanNotes.{PlanNotes}
use Rattle.signalman_seats.specs.Lines.{AreMen, Closed}
use Rattle.signalman_seats.specs.Men.{IsAtDesk, IsMan, IsOf, Man}
use Rattle.signalman_seats.specs.Notes.{AreNotesOf}
use Rattle.signalman_seats.proofs.Looking.{prefix_trans}

-- ---- a man and a post that was lent

pub legal_there : (plan : PlanFields) (o : Option PlanFields) (seen : List Entry) → o ≡ Some plan → LegalFor o seen
    → IsLegal plan seen
legal_there plan o seen e h = subst (λ (p : Option PlanFields). LegalFor p seen) e h

-- what holds of a plan, if there is one, holds of the one that is there
pub desk_there : (plan : PlanFields) (o : Option PlanFields) (P : PlanFields → Type 0) → o ≡ Some plan → IfSome o P
    → P plan
desk_there plan o P e h = subst (λ (p : Option PlanFields). IfSome p P) e h

-- his post has taken in one without a box: his own box is as he had seen it
pub takes_in : (plan : PlanFields) (v w other : View) (b : ℕ) (desk : DeskFields) (register : RegisterFields)
    (taken : ℕ) (notes : PlanNotes) → IsPlan plan → v.plan ≡ Some plan
    → IsMan v b desk register taken notes → w ≡ settled (both_views v other) → other.posts ≡ []
    → Seen w.seen v.posts v.seen → LegalFor w.plan w.seen → IsMan w b desk register taken notes
takes_in plan v w other b desk register taken notes is has man view bare seen legal = record {
  post = ap (λ (x : View). x.posts) view ∙ (ap (λ (ps : List ℕ). v.posts ++ ps) bare ∙ (append-nil v.posts ∙ man.post));
  olds = ap (λ (x : View). x.olds) view;
  at_desk = subst (λ (o : Option PlanFields). IfSome o (λ p. IsAtDesk p b w.seen desk)) (sym plan_is) (record {
    legal = legal_then;
    desk_of = at.desk_of;
    here = at.here ∙ sym (own_box plan b v.seen w.seen is seen.begins legal_then (seen.own b mine));
  });
  box_no = man.box_no;
  entries = man.entries ∙ sym (seen.own b mine);
  room = man.room;
  calls = man.calls;
  looks = man.looks ∙ sym (ap (λ (x : View). x.looks) view);
  few_looks = man.few_looks;
  glances = ap (λ (x : View). x.glances) view ∙ man.glances;
  noted = subst (λ (o : Option PlanFields). IfSome o (λ p. AreNotesOf p b notes)) (sym (ap (λ (x : View). x.plan) view))
      man.noted;
}
  where
    plan_is : w.plan ≡ Some plan
    plan_is = ap (λ (x : View). x.plan) view ∙ has

    legal_then : IsLegal plan w.seen
    legal_then = legal_there plan w.plan w.seen plan_is legal

    at : IsAtDesk plan b v.seen desk
    at = desk_there plan v.plan (λ p. IsAtDesk p b v.seen desk) has man.at_desk

    mine : 0 < held b v.posts
    mine = subst (λ (ps : List ℕ). 0 < held b ps) (sym man.post) (held_first b [])

-- ---- all men

abbrev pub register_of : Man → RegisterFields
register_of man = record { box_no = man.box_no; entries = man.entries; spare = man.spare }

-- the post has seen all that the man has, and holds his box
pub record Gathered (v : View) (man : Man) : Type 0 where
  pub seen : Seen v.seen man.view.posts man.view.seen
  pub holds : (p : ℕ) → 0 < held p man.view.posts → 0 < held p v.posts
  pub post : man.view.posts ≡ man.box_no ∷ []
  pub entries : man.entries ≡ part_of man.box_no man.view.seen
  pub glances : man.view.glances ≡ 0

-- the same of all these men, whose registers are these
abbrev pub Joined : View → List Man → List RegisterFields → Type 0
Joined v men registers = (k : ℕ) (d : Man) → k < length men → Gathered v (get_or men k d)
    × (register_at registers k ≡ register_of (get_or men k d))

still : (v w : View) (man : Man) (new : List ℕ) → Gathered v man → Seen w.seen v.posts v.seen → w.posts ≡ v.posts ++ new
    → Gathered w man
still v w man new g s posts = record {
  seen = record {
    begins = prefix_trans man.view.seen v.seen w.seen g.seen.begins s.begins;
    own = λ p h. s.own p
        (g.holds p h) ∙ g.seen.own p h;
  };
  holds = λ p h. subst (λ (ps : List ℕ). 0 < held p ps) (sym posts) (let a = held_append p v.posts new in
      let o = g.holds p h in omega arith);
  post = g.post;
  entries = g.entries;
  glances = g.glances;
}

-- one man more is gathered
pub gathers : (v w : View) (men : List Man) (registers : List RegisterFields) (man : Man) (register : RegisterFields)
    → Joined v men registers → length registers ≡ length men
    → Seen w.seen v.posts v.seen → Seen w.seen man.view.posts man.view.seen → w.posts ≡ v.posts ++ man.view.posts
    → register ≡ register_of man → man.view.posts ≡ man.box_no ∷ [] → man.entries ≡ part_of man.box_no man.view.seen
    → man.view.glances ≡ 0 → Joined w (men ++ man ∷ []) (registers ++ register ∷ [])
gathers v w men registers man register all len mine theirs posts is post part_is bare k d h = ⊎_elim
    (λ (t : ((k == length men) ≡ true) × (k ≡ length men)).
    let e : get_or (men ++ man ∷ []) k d ≡ man = get_or_push men man d k (sym t.1) in
    let f : get_or (registers ++ register ∷ []) k no_register ≡ register = get_or_push registers register
    no_register k (len ∙ sym t.1) in
    (subst (λ (x : Man). Gathered w x) (sym e) new, f ∙ (is ∙ ap register_of (sym e))))
    (λ (t : ((k == length men) ≡ false) × (k ≢ length men)). let lt : k < length men = let ne = t.1 in
    let l = length-append men (man ∷ []) in omega arith in let lt' : k < length registers = omega arith in
    let e : get_or (men ++ man ∷ []) k d ≡ get_or men k d = get_or_append_left men (man ∷ []) d k lt in
    let f : get_or (registers ++ register ∷ []) k no_register ≡ get_or registers k no_register = get_or_append_left
    registers (register ∷ []) no_register k lt' in
    let a = all k d lt in (
      subst (λ (x : Man). Gathered w x) (sym e) (still v w (get_or men k d) man.view.posts a.0 mine posts),
      f
          ∙ (a.1 ∙ ap register_of (sym e)),
    ))
    (eqb_tells k (length men))
  where
    new : Gathered w man
    new = record {
      seen = theirs;
      holds = λ p g. subst (λ (ps : List ℕ). 0 < held p ps) (sym posts) (let a = held_append p v.posts man.view.posts in
          omega arith);
      post = post;
      entries = part_is;
      glances = bare;
    }

some_man : (men : List Man) → 0 < length men → Man
some_man [] h = absurd (omega arith)
some_man (man ∷ men) h = man

-- all men are gathered: the line is closed
pub closes : (table_id : TableId) (plan : PlanFields) (v : View) (men : List Man) (registers : List RegisterFields)
    → IsPlan plan → AreMen table_id plan men → Joined v men registers → length registers ≡ length men
    → v.plan ≡ Some plan → LegalFor v.plan v.seen → Closed plan men registers
closes table_id plan v men registers is are all len has legal = record {
  log = v.seen;
  legal = legal_there plan v.plan v.seen has legal;
  seen = λ b d h. (all b d h).0.seen.begins;
  parts = record {
    each = len ∙ are.each;
    boxes = λ b h. ap (λ (r : RegisterFields). r.box_no) (all b first (there b h)).1 ∙ are.box_no b first (there b h);
    entries = λ b h. let a = all b first (there b h) in let man : Man = get_or men b first in
        let no = are.box_no b first (there b h) in
        let own : 0 < held man.box_no man.view.posts = subst (λ (ps : List ℕ). 0 < held man.box_no ps) (sym a.0.post)
        (held_first man.box_no []) in
        ap (λ (r : RegisterFields). r.entries) a.1 ∙ (a.0.entries ∙ (sym (a.0.seen.own man.box_no own)
        ∙ ap (λ (c : ℕ). part_of c v.seen) no));
  };
  entries = λ b d h. ap (λ (r : RegisterFields). r.entries) (all b d h).1;
  glances = λ b d h. (all b d h).0.glances;
}
  where
    there : (b : ℕ) → b < length plan.boxes → b < length men
    there b h = let e = are.each in omega arith

    first : Man
    first = some_man men (let e = are.each in let f = is.fewest in omega arith)

-- a man among the men of a line is one of it
pub one_of : (table_id : TableId) (plan : PlanFields) (men before : List Man) (man : Man) (later : List Man)
    → AreMen table_id plan men → before ++ man ∷ later ≡ men → IsOf table_id plan man
one_of table_id plan men before man later are e =
    let there : get_or men (length before) man ≡ man = ap (λ (l : List Man). get_or l (length before) man) (sym e
    ∙ sym (append_assoc before (man ∷ []) later))
    ∙ (get_or_append_left (before ++ man ∷ []) later man (length before) (let l = length-append before (man ∷ []) in
    omega arith) ∙ get_or_push before man man (length before) refl) in
    let lt : length before < length men = (let l = length-append before (man ∷ later) in
    let k : length (before ++ man ∷ later) ≡ length men = ap length e in omega arith) in
    subst (λ (m : Man). IsOf table_id plan m) there (are.of_line (length before) man lt)

-- no men are left where there are none
pub none_left : (men : List Man) → length men ≡ 0 → men ≡ []
none_left [] h = refl
none_left (man ∷ men) h = absurd (omega arith)
