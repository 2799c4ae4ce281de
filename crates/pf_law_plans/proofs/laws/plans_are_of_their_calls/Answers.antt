use Rattle.pf_law_plans.proofs.PlannedTransactions.{call_followed, planned_names, read_again}
use Rattle.pf_law_plans.proofs.laws.plans_are_of_their_calls.Goals as goal

pub returns-clause-names : goal.returns-clause-names
returns-clause-names c = planned_names

pub returns-clause-follows : goal.returns-clause-follows
returns-clause-follows c = call_followed

pub returns-clause-again : goal.returns-clause-again
returns-clause-again c = read_again
