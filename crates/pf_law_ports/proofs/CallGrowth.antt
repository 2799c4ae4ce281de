-- Calls that follow each other lengthen the group's history, and looks leave it as it was.
use Rattle.std.proofs.Common.{◌≡◌, List, [], ◌∷◌, Some, None, refl, sym, subst, ◌∙◌}
use Rattle.pf_entry.specs.Lists.{Every}
use Rattle.pf_protocol.specs.Servers.{Setup}
use Rattle.pf_protocol.specs.Histories.{IsPrefix}
use Rattle.pf_protocol.specs.Ports.{submitting}
use Rattle.pf_protocol.proofs.ForMoments.{prefix_of}
use Rattle.pf_protocol.proofs.ForMoments.{whole_prefix}
use Rattle.pf_asks.specs.Desks.{DeskCall, CallIsLook, Led, Submitted, Fetched, WasAcked, Took}
use Rattle.pf_law_ports.specs.Calls.{PortPast, fetching, submission_of, fetching_of, PastSays, SayInTurn}

module _ (setup : Setup) where
  one_grows : (old : PortPast) (call : DeskCall) (new : PortPast) → PastSays setup old call new → IsPrefix old.history new.history
  one_grows old (Led leader) new says = subst (λ (p : PortPast). IsPrefix old.history p.history) (sym says.0) (whole_prefix old.history)
  one_grows old (Submitted server range sectors slot) new says =
      subst (λ (p : PortPast). IsPrefix old.history p.history) (sym says.2) (record { rest = submitting (submission_of old server range sectors says.0) ∷ []; whole = refl })
  one_grows old (Fetched server range number) new says =
      subst (λ (p : PortPast). IsPrefix old.history p.history) (sym says.2) (record { rest = fetching (fetching_of old server range says.0) ∷ []; whole = refl })
  one_grows old (WasAcked term slot is) new says = subst (λ (p : PortPast). IsPrefix old.history p.history) (sym says.0) (whole_prefix old.history)
  one_grows old (Took number None) new says = subst (λ (p : PortPast). IsPrefix old.history p.history) (sym says) (whole_prefix old.history)
  one_grows old (Took number (Some sectors)) new says = subst (λ (p : PortPast). IsPrefix old.history p.history) (sym says.0) (whole_prefix old.history)

  pub grows : (old : PortPast) (calls : List DeskCall) (new : PortPast) → SayInTurn setup old calls new → IsPrefix old.history new.history
  grows old [] new say = subst (λ (p : PortPast). IsPrefix old.history p.history) (sym say) (whole_prefix old.history)
  grows old (call ∷ calls) new say = prefix_of old.history say.0.history new.history (one_grows old call say.0 say.1) (grows say.0 calls new say.2)

  one_idle : (old : PortPast) (call : DeskCall) (new : PortPast) → CallIsLook call → PastSays setup old call new → new ≡ old
  one_idle old (Led leader) new look says = says.0
  one_idle old (WasAcked term slot is) new look says = says.0
  one_idle old (Took number None) new look says = says
  one_idle old call new look says = absurd look

  pub idle : (old new : PortPast) (calls : List DeskCall) → Every CallIsLook calls → SayInTurn setup old calls new → new ≡ old
  idle old new [] looks say = say
  idle old new (call ∷ calls) looks say = idle say.0 new calls looks.1 say.2 ∙ one_idle old call say.0 looks.0 say.1
