use Rattle.std.proofs.Common.{rules, ◌≡◌, List, [], ◌∷◌, ◌++◌, length, sym, ap, ◌∙◌, subst, arith, append_assoc}
use Rattle.std.proofs.Common.{append-nil, length-append}
use Rattle.std.specs.Vec.Iter.{into_iter_items}
use Rattle.train_register.specs.Registers.{RegisterFields}
use Rattle.instrument_rule.specs.Rule.{Seen}
use Rattle.instrument_rule.specs.declared.view.View.{View}
use Rattle.instrument_rule.specs.Posts.{plan_of, view_of}
use Rattle.signalman_seats.specs.Men.{Man}
use Rattle.signalman_seats.specs.Lines.{Closed}
use Rattle.signalman_seats.proofs.Gathering.{Joined, closes, gathers, none_left, one_of}
use Rattle.signalman_seats.proofs.closing.close_line.Goals as goal

pub join-requires-clause-theirs : goal.join-requires-clause-theirs
join-requires-clause-theirs c =
    let man = c.in-Some.man in
    let of_line = one_of c.args.line.table.shared.table_id (plan_of c.args.line) c.args.men.items
    c.loop-man.yielded man (into_iter_items c.next.new.self) c.requires
    (ap (λ (l : List Man). c.loop-man.yielded ++ l) (sym c.in-Some.ensures.steps.0) ∙ c.loop-man.invariant.all) in
    let view : (view_of c.into_parts-theirs.result.0) ≡ man.view = c.into_parts-theirs.ensures.post.1 in
    (ap (λ (x : View). x.plan) view ∙ of_line.1, ap (λ (x : View). x.olds) view ∙ c.into_parts-theirs.ensures.sits.1)

pub loop-man-preserved : goal.loop-man-preserved
loop-man-preserved c =
    let v = view_of c.loop-man.post in
    let w = view_of c.join.new.self in
    let man = c.in-Some.man in
    let other = view_of c.into_parts-theirs.result.0 in
    let register : RegisterFields = c.into_parts-theirs.result.1 in
    let now = c.loop-man.invariant in
    let view : other ≡ man.view = c.into_parts-theirs.ensures.post.1 in
    let posts : w.posts ≡ v.posts ++ man.view.posts = ap (λ (x : View). x.posts) c.join.ensures.view
    ∙ ap (λ (x : View). v.posts ++ x.posts) view in
    let theirs : Seen w.seen man.view.posts man.view.seen = subst (λ (x : View). Seen w.seen x.posts x.seen) view
    c.join.ensures.others in record {
      can = tt;
      ends = tt;
      all = append_assoc c.loop-man.yielded (man ∷ []) (into_iter_items c.next.new.self)
          ∙ (ap (λ (l : List Man). c.loop-man.yielded ++ l) (sym c.in-Some.ensures.steps.0) ∙ now.all);
      table = c.join.ensures.same ∙ now.table;
      sits = (
        ap (λ (x : View). x.plan) c.join.ensures.view ∙ now.sits.0,
        ap (λ (x : View). x.olds)
            c.join.ensures.view,
      );
      legal = c.join.ensures.legal;
      count = (let l = length-append c.loop-man.yielded (man ∷ []) in let k = now.count in
          let e = c.push_reserved.ensures.len in omega arith);
      room = c.push_reserved.ensures.capacity ∙ now.room;
      gathered = subst (λ (l : List RegisterFields). Joined w (c.loop-man.yielded ++ man ∷ []) l)
          (sym c.push_reserved.ensures.items)
          (gathers v w c.loop-man.yielded c.loop-man.registers.items man register now.gathered (search rules)
          c.join.ensures.mine theirs posts c.into_parts-theirs.ensures.register c.into_parts-theirs.ensures.sits.0
          c.into_parts-theirs.ensures.part c.into_parts-theirs.ensures.glances);
    }

pub returns-clause-closed : goal.returns-clause-closed
returns-clause-closed c =
    let now = c.loop-man.invariant in
    let plan = plan_of c.args.line in
    let rest : List Man = into_iter_items c.loop-man.man-iterator in
    let empty : rest ≡ [] = none_left rest (search rules) in
    let all : c.loop-man.yielded ≡ c.args.men.items = sym (append-nil c.loop-man.yielded)
    ∙ (ap (λ (l : List Man). c.loop-man.yielded ++ l) (sym empty) ∙ now.all) in
    let len : length c.loop-man.registers.items ≡ length c.loop-man.yielded = search rules in
    let len_all : length c.loop-man.registers.items ≡ length c.args.men.items = len ∙ ap length all in
    let joined = subst (λ (l : List Man). Joined (view_of c.loop-man.post) l c.loop-man.registers.items) all
    now.gathered in
    subst (λ (l : List RegisterFields). Closed plan c.args.men.items l) (sym c.from_vec.ensures)
    (closes c.args.line.table.shared.table_id plan (view_of c.loop-man.post) c.args.men.items c.loop-man.registers.items
    c.args.line.is_plan c.requires joined len_all now.sits.0 now.legal)
