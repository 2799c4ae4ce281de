-- A host over a layout is made, and its calls begin.
use Rattle.pf_world_moments.proofs.CallNames.{named_as}
use Rattle.std.proofs.Common.{◌≡◌, ◌≢◌, ℕ, zero, suc, List, ◌∷◌, ◌++◌, length, Option, Some, slice_get, refl, sym, ap, subst, ◌∙◌}
use Rattle.std.specs.Option.{option_and_then}
use Rattle.std.proofs.lemmas.Option.{none-some}
use Rattle.pf_base.specs.declared.calls.Call.{Call}
use Rattle.pf_base.specs.declared.calls.CallName.{CallName}
use Rattle.pf_base.specs.CallNames.{call_name_of}
use Rattle.pf_layout.specs.Calls.{IsReadAs}
use Rattle.pf_tree.specs.Calls.{FileCall}
use Rattle.pf_volume.specs.Volumes.{Extent}
use Rattle.pf_mount.specs.declared.work.MountNext.{MountNext}
use Rattle.pf_mount.specs.declared.work.MountWork.{MountWork}
use Rattle.pf_mount.specs.declared.work.MountWork.TheVariants.{Rests, Fails, ReadsSuper, WritesSuper, Syncs, Ballots, Pauses, Moves}
use Rattle.pf_mount.specs.Mounts.{MountIs, MountOutcome, starting}
use Rattle.pf_mount.specs.Standing.{AwaitsStill}
use Rattle.pf_world_moments.specs.pf_chunk.specs.Views.{ChunkIs}
use Rattle.pf_move.specs.Routes.{RoutesIs}
use Rattle.pf_journal.specs.declared.layouts.Layout.{Layout}
use Rattle.pf_world_moments.specs.Moments.{Acts, Calls}
use Rattle.pf_world_moments.specs.Parts.{AreQuiet}
use Rattle.pf_world_moments.proofs.Words.{call_read}
use Rattle.pf_mount_host.specs.Hosts.{HostIs, call_ended, made_host, no_asks, mount_number, same_chunk}
use Rattle.pf_mount_host.specs.Parts.{next_text}
use Rattle.pf_mount_host.specs.Calling.{HasBegunCall}
use Rattle.pf_mount_host.specs.Steps.{IsAnchoredHostOf}
use Rattle.pf_mount_host.proofs.HeardReplies.{ended_text}

-- Made

none_pends : (port chunk : ℕ) → option_and_then same_chunk (slice_get no_asks port) ≡ Some chunk → ⊥
none_pends zero chunk is = none-some chunk is
none_pends (suc zero) chunk is = none-some chunk is
none_pends (suc (suc zero)) chunk is = none-some chunk is
none_pends (suc (suc (suc zero))) chunk is = none-some chunk is
none_pends (suc (suc (suc (suc port)))) chunk is = none-some chunk is

made_so : (layout : Layout) (number : ℕ) (v : Extent) (routes : RoutesIs) (chunks : List ChunkIs) → v.chunks ≡ length routes.routes → AreQuiet number chunks → IsAnchoredHostOf routes chunks (made_host layout number v)
made_so layout number v routes chunks count quiet = record {
  volume = count;
  ports = refl;
  asking = λ port chunk at. absurd (none_pends port chunk at);
  apart = λ port other chunk at other_at. absurd (none_pends port chunk at);
  quiet = λ k c none there port its. quiet k c there port its;
}

pub is_made : (layout : Layout) (number : ℕ) (v : Extent) (host : HostIs) → host ≡ made_host layout number v → (routes : RoutesIs) (chunks : List ChunkIs) → v.chunks ≡ length routes.routes → AreQuiet number chunks → IsAnchoredHostOf routes chunks host
is_made layout number v host is routes chunks count quiet = subst (IsAnchoredHostOf routes chunks) (sym is) (made_so layout number v routes chunks count quiet)

-- Begun

pub at_rest : (work : MountWork) → ((work ≢ Rests) → ⊥) → work ≡ Rests
at_rest Rests other = refl
at_rest Fails other = absurd (other (λ is. cc))
at_rest ReadsSuper other = absurd (other (λ is. cc))
at_rest WritesSuper other = absurd (other (λ is. cc))
at_rest (Syncs looks) other = absurd (other (λ is. cc))
at_rest (Ballots input) other = absurd (other (λ is. cc))
at_rest (Pauses input left) other = absurd (other (λ is. cc))
at_rest (Moves moving) other = absurd (other (λ is. cc))

module _ (call : Call (List ℕ)) (file : FileCall) (name : CallName) (before after : List ℕ) (host : HostIs) (m : MountIs) (next : Option MountNext) (read : IsReadAs call file) (name_is : name ≡ call_name_of call)
    (is : ◌≡◌ {A = MountOutcome} (record { mount = m; next = next }) (starting host.mount file)) (still : (port : ℕ) → AwaitsStill host.mount (starting host.mount file).mount port)
    (kept : (starting host.mount file).mount.position.layout ≡ host.mount.position.layout)
    (put : after ≡ before ++ next_text (mount_number host.mount) (Some name) next) where
  mount_is : m ≡ (starting host.mount file).mount
  mount_is = ap (λ (o : MountOutcome). o.mount) is

  number_is : mount_number m ≡ mount_number host.mount
  number_is = ap (λ (o : MountOutcome). mount_number o.mount) is

  still_host : (routes : RoutesIs) (chunks : List ChunkIs) → IsAnchoredHostOf routes chunks host → IsAnchoredHostOf routes chunks (record host { mount = m })
  still_host routes chunks h = record {
    volume = ap (λ (o : MountOutcome). o.mount.files.volume.chunks) is ∙ h.volume;
    ports = h.ports;
    asking = λ port chunk at.
        let w = h.asking port chunk at in record {
          k = w.k;
          home = w.home;
          c = w.c;
          there = w.there;
          its = w.its;
          its_there = ap (slice_get w.c.ports) number_is ∙ w.its_there;
          ask = w.ask;
          pending = w.pending;
          of_chunk = w.of_chunk;
          awaits = subst (λ (x : MountIs). AwaitsStill host.mount x port) (sym mount_is) (still port) (Some w.ask) w.awaits;
        };
    apart = h.apart;
    quiet = λ k c none there its its_there. h.quiet k c none there its (ap (slice_get c.ports) (sym number_is) ∙ its_there);
  }

  pub began_so : HasBegunCall call before host after (record host { mount = m })
  began_so = record {
    file = file;
    read = call_read call file read;
    is_host = still_host;
    number = number_is;
    layout = ap (λ (o : MountOutcome). o.mount.position.layout) is ∙ kept;
    volume = ap (λ (o : MountOutcome). o.mount.files.volume) is;
    calls = ap (λ (o : MountOutcome). o.mount.files.calls) is;
    told = Acts (mount_number host.mount) (Calls file) ∷ call_ended (mount_number host.mount) (Some file) next;
    put = put ∙ ap (λ text. before ++ text) (sym (ended_text (mount_number host.mount) (Some file) (Some name) next (ap (λ (x : CallName). Some x) (named_as call file read ∙ sym name_is))));
    run = λ chunks. ap (λ (o : MountOutcome). record { chunks = chunks; host = record host { mount = o.mount }; told = Acts (mount_number host.mount) (Calls file) ∷ call_ended (mount_number host.mount) (Some file) o.next }) (sym is);
  }

-- as the code has it
pub began_as : (call : Call (List ℕ)) (file : FileCall) (name : CallName) (before after : List ℕ) (host inside : HostIs) (m : MountIs) (next : Option MountNext) (n : ℕ) → IsReadAs call file → name ≡ call_name_of call
    → ◌≡◌ {A = MountOutcome} (record { mount = m; next = next }) (starting inside.mount file) → ((port : ℕ) → AwaitsStill inside.mount (starting inside.mount file).mount port)
    → (starting inside.mount file).mount.position.layout ≡ inside.mount.position.layout → n ≡ mount_number inside.mount → inside ≡ host
    → after ≡ before ++ next_text n (Some name) next → HasBegunCall call before host after (record { mount = m; at = inside.at })
began_as call file name before after host inside m next n read name_is is still kept number same put =
    subst (λ (h : HostIs). HasBegunCall call before h after (record { mount = m; at = inside.at })) same
    (began_so call file name before after inside m next read name_is is still kept (put ∙ ap (λ (k : ℕ). before ++ next_text k (Some name) next) number))
