use Rattle.pf_law_calls.proofs.DataByCall.{none_come, since_begun}
use Rattle.pf_law_calls.proofs.data.data_exchanges_are_of_calls.Goals as goal

pub returns-clause-since : goal.returns-clause-since
returns-clause-since c = since_begun

pub returns-clause-none : goal.returns-clause-none
returns-clause-none c = λ layout v told list can registers is before mid after m same rests none. none_come layout v told can registers list is m before mid after same rests none
