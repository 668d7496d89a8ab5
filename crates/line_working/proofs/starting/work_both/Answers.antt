use mathlib.Core.Path.{◌≡◌, subst}
use denote.Param.Members.{Called}
use borrow.Author.Rules.{rules}
use Rattle.line_working.proofs.starting.work_both.Goals as goal

pub returns : goal.returns
returns g c =
    let r = c.run_both-f.result in
    let f_back : r.0.0.now ≡ c.his-1.given.0 = search rules in
    let g_back : r.1.0.now ≡ c.others-1.given.0 = search rules in (
      subst (Called g.F.FnMut c.args.his.now tt r.0.1) f_back c.run_both-f.ensures.0.1,
      subst (Called g.G.FnMut c.args.others.now tt r.1.1) g_back c.run_both-f.ensures.1.1,
    )
