-- The events of a list lead a run to the group that they led to.
use Rattle.std.proofs.Common.{◌≡◌, ℕ, ◌+◌, List, [], ◌∷◌, ◌++◌, map, append-nil, append_assoc, refl, sym, ap, subst, ◌∙◌}
use Rattle.std.specs.Prelude.{IsTrue}
use Rattle.pf_protocol.specs.Servers.{Setup}
use Rattle.pf_protocol.specs.Groups.{opening}
use Rattle.pf_protocol.specs.Histories.{History, replay}
use Rattle.pf_protocol.specs.Answers.{IsLegal}
use Rattle.pf_protocol.proofs.ForMoments.{whole_prefix}
use Rattle.pf_protocol.specs.declared.events.Event.{Event}
use Rattle.pf_chunk.specs.pf_group.specs.GroupIs.{GroupIs}
use Rattle.pf_chunk.specs.pf_group_rounds.specs.Agreeing.{TellsOfGroup, chunk_standing, told_from, told_history}
use Rattle.pf_chunk.specs.pf_group_rounds.specs.Chunks.{Chunk, after}
use Rattle.pf_chunk.specs.pf_group_rounds.specs.Growing.{HasGrown}
use Rattle.pf_chunk.specs.pf_group_rounds.specs.Halts.{Halt}
use Rattle.pf_chunk.specs.pf_group_rounds.proofs.FollowedHistories.{step_is, tells_before}
use Rattle.pf_chunk.specs.pf_group_rounds.proofs.GroupGrowth.{later_tells}
use Rattle.pf_chunk.specs.pf_group_rounds.proofs.Told.{told_longer}
use Rattle.pf_live_session.specs.pf_shared.specs.Moments.{happenings}
use Rattle.pf_live_session.specs.pf_shared.specs.Since.{whole_history}
use Rattle.pf_live_session.specs.pf_live_seats.specs.declared.plan.LinePlan.{LinePlan}
use Rattle.pf_base.specs.declared.live_end.LiveEnd.{LiveEnd}
use Rattle.pf_live_session.specs.pf_live_seats.specs.Deliveries.{LiveTrace}
use Rattle.pf_live_session.specs.pf_live_seats.specs.Ends.{HasEnd}
use Rattle.pf_live_session.specs.GroupSessions.{HasList, IsRunOut}
use Rattle.pf_chunk.specs.Lending.{after_all}
use Rattle.pf_chunk.proofs.FollowUps.{legal_rest}
use Rattle.pf_live_session.specs.Sessions.{IsPartOfSession, IsSessionOf}
use Rattle.pf_live_session.proofs.Events.{of_line, told_same}

abbrev pub events_in : History → List Event
events_in history = map (λ h. h.event) history

-- the group after more has happened
abbrev pub having : GroupIs → History → GroupIs
having g more = record g { history = g.history ++ more }

pub all_after_is : (halts : List Halt) (more : History) (g : GroupIs) → IsLegal g.setup (g.history ++ more) → TellsOfGroup halts (having g more) → after_all halts (chunk_standing halts g) (events_in more) ≡ chunk_standing halts (having g more)
all_after_is halts [] g legal tells = ap (λ history. chunk_standing halts (record g { history = history })) (sym (append-nil g.history))
all_after_is halts (h ∷ hs) g legal tells =
    let next : GroupIs = having g (h ∷ []) in
    let longer : next.history ++ hs ≡ g.history ++ h ∷ hs = append_assoc g.history (h ∷ []) hs in
    let answered = (legal_rest g.setup g.history (h ∷ hs) (opening g.setup) [] legal.legal).0.answered in
    let one = step_is halts g h answered (tells_before halts (having g (h ∷ hs)) next.history (record { rest = hs; whole = longer }) tells) in
    let rest = all_after_is halts hs next (subst (IsLegal g.setup) (sym longer) legal) (subst (λ history. TellsOfGroup halts (record g { history = history })) (sym longer) tells) in
    ap (λ (c : Chunk). after_all halts c (events_in hs)) one.1 ∙ rest ∙ ap (λ history. chunk_standing halts (record g { history = history })) longer

abbrev chunk_at : List Halt → (number : ℕ) → Setup → History → Chunk
chunk_at halts number setup history = record { number = number; setup = setup; state = replay setup history; history = told_from halts number 0 history }

same_chunk : (halts : List Halt) (a b : GroupIs) → b.number ≡ a.number → b.setup ≡ a.setup → b.history ≡ a.history → chunk_standing halts a ≡ chunk_standing halts b
same_chunk halts a b number setup history =
    ap (λ n. chunk_at halts n a.setup a.history) (sym number) ∙ ap (λ s. chunk_at halts b.number s a.history) (sym setup) ∙ ap (chunk_at halts b.number b.setup) (sym history)

-- what the seats of a line left
module _ (plan : LinePlan) (old mid : GroupIs) (list : LiveTrace) (listed : HasList plan old list mid) (legal : IsTrue old.told → IsLegal mid.setup mid.history) (halts : List Halt) (tells : TellsOfGroup halts mid) where
  was_told : IsTrue old.told
  was_told = subst IsTrue listed.grown.told tells.told

  tells_whole : TellsOfGroup halts (having old (happenings list))
  tells_whole =
      later_tells halts (having old (happenings list)) mid listed.grown.number listed.grown.told listed.grown.setup (record { rest = []; whole = append-nil (whole_history old list) ∙ sym listed.history }) tells

  pub comes_to : after_all halts (chunk_standing halts old) (events_in (happenings list)) ≡ chunk_standing halts mid
  comes_to =
      let lawful = subst (λ setup. IsLegal setup (whole_history old list)) listed.grown.setup (subst (IsLegal mid.setup) listed.history (legal was_told)) in
      all_after_is halts (happenings list) old lawful tells_whole ∙ same_chunk halts (having old (happenings list)) mid listed.grown.number listed.grown.setup listed.history

  -- they are some of a session
  pub part : IsPartOfSession halts plan (chunk_standing halts old) (events_in (happenings list))
  part = record {
    root = old;
    told = was_told;
    stands = refl;
    list = list;
    live = listed.live;
    happened =
        ap (λ (c : Chunk). c.history) comes_to
        ∙ ap (λ n. told_from halts n 0 mid.history) listed.grown.number
        ∙ ap (told_from halts old.number 0) listed.history
        ∙ told_longer halts old.number 0 old.history (happenings list)
        ∙ ap (λ rest. told_history halts old ++ rest) (told_same halts old.number _ (happenings list) (of_line plan old list listed.live));
  }

  -- and all of one, where it has ended so
  pub whole_session : (ended : LiveEnd) → IsRunOut plan list → HasEnd plan old list ended → IsSessionOf halts plan (chunk_standing halts old) (record { events = events_in (happenings list); ended = ended }) old list
  unfolding part
  whole_session ended out ends = record { is = record { part = part; out = out; ends = ends }; over = refl; of_list = refl }
