use Rattle.pf_group_network.proofs.Next.{somehow_leads_on}
use Rattle.pf_group_network.proofs.lives.restarts_lead_on.Goals as goal

pub returns : goal.returns
returns g c setup past old new reached room covers i low result goes =
    somehow_leads_on g.S.Store.model setup past old new reached room covers i low result goes
