use Rattle.std.proofs.Common.{◌≡◌, ◌↔◌, ℕ, true, Option, Some, eqb, eqb-true, eq-eqb, ap, ◌∙◌}
use Rattle.pf_live_line.proofs.crew.leads.Goals as goal

named : (leader : Option (ℕ × ℕ)) (one : ℕ × ℕ) (server : ℕ) → leader ≡ Some one → (eqb one.1 server ≡ true) ↔ ((term : ℕ) × (leader ≡ Some (term, server)))
named leader one server is = (
  λ e. (one.0, is ∙ ap (λ (i : ℕ). Some (one.0, i)) (eqb-true one.1 server e)),
  λ w. let found = w.1 in let same : one ≡ (w.0, server) = cc in eq-eqb one.1 server (ap (λ (p : ℕ × ℕ). p.1) same),
)

pub returns-in-Some : goal.returns-in-Some
returns-in-Some c = named c.args.leader _ c.args.server c.in-Some.is
