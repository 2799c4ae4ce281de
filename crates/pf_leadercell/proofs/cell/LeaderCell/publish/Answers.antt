use Rattle.std.proofs.Common.{rules, ap, sym, ◌∙◌, le_of_eq}
use Rattle.pf_leadercell.specs.declared.view.LeaderView.{LeaderView}
use Rattle.pf_leadercell.specs.Published.{Pair, last_of}
use Rattle.pf_leadercell.proofs.Leads.{publishes, last_snoc}
use Rattle.pf_leadercell.proofs.cell.LeaderCell.publish.Goals as goal

pub swap_as-requires : goal.swap_as-requires
swap_as-requires g c = (search rules, (search rules, (search rules, publishes _ _ c.args.pass.now.term c.args.pass.now.server _ _ c.requires.pass.1.0 c.requires.pass.1.1 (search rules) (search rules))))

pub returns-clause-pass : goal.returns-clause-pass
returns-clause-pass g c = let e = c.swap_as.ensures.rule in (
  search rules,
  (
    ap (λ (v : LeaderView). v.first) e ∙ c.requires.pass.1.0,
    ap (λ (v : LeaderView). last_of v.seen) e ∙ (last_snoc (0, 0) c.args.pass.now.pass.me.0.client.seen (c.args.term, c.from.result) ∙ ap (λ s. (c.args.term, s)) c.from.ensures),
  ),
)

pub returns-clause-reached : goal.returns-clause-reached
returns-clause-reached g c = let e = c.swap_as.ensures.rule in
    le_of_eq (sym (ap (λ (v : LeaderView). (last_of v.seen).0) e ∙ ap (λ (p : Pair). p.0) (last_snoc (0, 0) c.args.pass.now.pass.me.0.client.seen (c.args.term, c.from.result))))
