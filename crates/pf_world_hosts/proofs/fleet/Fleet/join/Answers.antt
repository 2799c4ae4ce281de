use Rattle.std.proofs.Common.{◌≡◌, ◌<◌, ℕ, List, [], ◌∷◌, ◌++◌, length, Some, sym, ap, subst, ◌∙◌, arith}
use Rattle.pf_journal.specs.Layouts.{VolumeHasRoom}
use Rattle.pf_move.specs.Routes.{RoutesIs}
use Rattle.pf_mount_host.specs.pf_chunk.specs.Views.{ChunkIs}
use Rattle.pf_mount_host.specs.pf_world_moments.specs.Parts.{AreQuiet}
use Rattle.pf_mount_host.specs.pf_world_moments.specs.Steps.{AreReady}
use Rattle.pf_mount_host.specs.Hosts.{HostIs, made_host}
use Rattle.pf_mount_host.specs.Steps.{IsAnchoredHostOf}
use Rattle.pf_world_hosts.specs.Calls.{HasJoined}
use Rattle.pf_world_hosts.specs.Steps.{FleetIs, IsFleetOf}
use Rattle.pf_world_hosts.specs.Volumes.{Hosts}
use Rattle.pf_world_hosts.proofs.HostLives.{host_joined}
use Rattle.pf_world_hosts.proofs.fleet.Fleet.join.Goals as goal

-- the host has the next number, and stands at the end
at_the_end : (was now : FleetIs) (n : ℕ) (host : HostIs) (hosts : Hosts) → was ≡ now → n ≡ length was.hosts → hosts ≡ was.hosts ++ Some host ∷ [] → VolumeHasRoom now.layout now.volume → length now.hosts < 16 → host ≡ made_host was.layout n was.volume
    → ((routes : RoutesIs) (chunks : List ChunkIs) → was.volume.chunks ≡ length routes.routes → AreQuiet n chunks → IsAnchoredHostOf routes chunks host)
    → (chunks : List ChunkIs) → AreReady chunks → IsFleetOf chunks now → HasJoined chunks now n chunks (record was { hosts = hosts })
at_the_end was now n host hosts same number put room few made is_host chunks ready fleet =
    subst (λ (f : FleetIs). HasJoined chunks f n chunks (record was { hosts = hosts })) same
    (subst (λ (hs : Hosts). HasJoined chunks was n chunks (record was { hosts = hs })) (sym put)
    (subst (λ k. HasJoined chunks was k chunks (record was { hosts = was.hosts ++ Some host ∷ [] })) (sym number)
    (host_joined chunks was (subst (IsFleetOf chunks) (sym same) fleet) ready (subst (λ (f : FleetIs). VolumeHasRoom f.layout f.volume) (sym same) room) (subst (λ (f : FleetIs). length f.hosts < 16) (sym same) few) host
    (made ∙ ap (λ k. made_host was.layout k was.volume) number)
    (λ count quiet. is_host was.routes chunks count (subst (λ k. AreQuiet k chunks) (sym number) quiet)))))

pub returns-clause-joined : goal.returns-clause-joined
returns-clause-joined c =
    let was : FleetIs = record { volume = c.self.inside.volume; layout = c.self.inside.layout; hosts = c.self.inside.hosts.items; calls = c.self.inside.calls; routes = c.self.inside.routes; mover = c.self.inside.mover } in
    let few : length c.self.inside.hosts.items < 16 = subst (λ (f : FleetIs). length f.hosts < 16) (sym c.self.view_is) c.requires.few in
    let number : c.len-number.result ≡ length c.self.inside.hosts.items = omega arith in
    at_the_end was c.args.self.now c.len-number.result c.in_ok-host.host c.push_reserved.new.self.items c.self.view_is number (cc) c.requires.room c.requires.few c.in_ok-host.ensures.made c.in_ok-host.ensures.is_host
