-- A pending ask of a host over a layout is handed on.
use Rattle.std.proofs.Common.{◌≡◌, ℕ, List, [], ◌∷◌, ◌++◌, Option, Some, None, refl, sym, ap, subst, ◌∙◌, append-nil}
use Rattle.pf_world_moments.specs.pf_group_network.proofs.Lists.{set_mapped}
use Rattle.pf_world_moments.specs.pf_chunk.specs.Driving.{Driven, led}
use Rattle.pf_world_moments.specs.pf_chunk.specs.Views.{ChunkIs, run_of}
use Rattle.pf_move.specs.Routes.{RoutesIs}
use Rattle.pf_world_moments.specs.Moments.{Writes, moments_text}
use Rattle.pf_world_moments.specs.Hosts.{drove_as, handed_moments}
use Rattle.pf_world_moments.specs.Steps.{HaveBegun, chunk_runs}
use Rattle.pf_world_moments.proofs.Groups.{run_there}
use Rattle.pf_world_moments.proofs.PortSteps.{gone_refl}
use Rattle.pf_mount_host.specs.Hosts.{HostIs, Stepped, group_asked_at, hands_ask, hands_at, hands_of, mount_number}
use Rattle.pf_mount_host.specs.Parts.{HasLedAt, HasNotLedAt}
use Rattle.pf_mount_host.specs.Steps.{AreReadyFor, HasDone, HasNotDone}
use Rattle.pf_mount_host.proofs.HeardReplies.{waits_on}

-- nothing is pending there, or its chunk is moving
pub hands_nothing : (routes : RoutesIs) (chunks : List ChunkIs) (host : HostIs) (port : ℕ) (out : List ℕ) → AreReadyFor routes chunks host → group_asked_at routes host port ≡ None
    → HasDone (λ halts r cs h. hands_ask halts r port cs h) routes chunks out host chunks out host
hands_nothing routes chunks host port out ready none = record {
  ready = ready.ready;
  gone = gone_refl (mount_number host.mount) chunks;
  is_host = ready.is_host;
  number = refl;
  layout = refl;
  volume = refl;
  calls = refl;
  told = [];
  put = sym (append-nil out);
  run = λ halts tells. ap (hands_at halts (chunk_runs halts chunks) host) none;
}

handed_text : (mount k : ℕ) (place : Option ℕ) (text : List ℕ) → moments_text (handed_moments mount k place ++ Writes text ∷ []) ≡ text
handed_text mount k None text = append-nil text
handed_text mount k (Some place) text = append-nil text

module _ (routes : RoutesIs) (old new : List ChunkIs) (host : HostIs) (port k : ℕ) (group : group_asked_at routes host port ≡ Some k) where
  -- its group goes on
  pub hands_on : (before after : List ℕ) → AreReadyFor routes old host → HasLedAt (mount_number host.mount) k old before after new → HasDone (λ halts r cs h. hands_ask halts r port cs h) routes old before host new after host
  hands_on before after ready d = record {
    ready = d.ready;
    gone = d.gone;
    is_host = waits_on (λ halts c. led halts c (mount_number host.mount)) routes old new host port k before after ready.is_host group d;
    number = refl;
    layout = refl;
    volume = refl;
    calls = refl;
    told = handed_moments (mount_number host.mount) k d.place ++ Writes d.text ∷ [];
    put = d.put ∙ ap (λ text. before ++ text) (sym (handed_text (mount_number host.mount) k d.place d.text));
    run = λ halts tells.
        ap (hands_at halts (chunk_runs halts old) host) group
        ∙ ap (hands_of halts (chunk_runs halts old) host k) (run_there halts old k d.was d.there)
        ∙ ap (λ (s : Driven). let at = drove_as (chunk_runs halts old) (mount_number host.mount) k s in let it : Stepped = record { chunks = at.chunks; host = host; told = at.told } in it) (d.run halts tells)
        ∙ ap (λ cs. record { chunks = cs; host = host; told = handed_moments (mount_number host.mount) k d.place ++ Writes d.text ∷ [] }) (set_mapped (run_of halts) old k d.is ∙ ap (chunk_runs halts) (sym d.one));
  }

  -- there was no memory for the whole of it
  pub not_handed : HasNotLedAt (mount_number host.mount) k old new → HasNotDone (λ halts r cs h. hands_ask halts r port cs h) routes old host new
  not_handed f = record {
    grown = f.grown;
    begun = λ halts tells.
        subst (λ (s : Stepped). HaveBegun halts old s.chunks new)
        (sym (ap (hands_at halts (chunk_runs halts old) host) group ∙ ap (hands_of halts (chunk_runs halts old) host k) (run_there halts old k f.was f.there)))
        (f.begun halts tells);
  }
