-- A new chunk is ready.
use Rattle.std.proofs.Common.{◌≡◌, ℕ, Bool, false, List, [], replicate, arith, refl, sym, subst}
use Rattle.std.proofs.lemmas.List.{length-replicate}
use Rattle.pf_protocol.specs.declared.answers.Answer.{Answer}
use Rattle.pf_protocol.specs.Servers.{Setup}
use Rattle.pf_protocol.specs.Groups.{opening}
use Rattle.pf_asks.specs.Ports.{new_port}
use Rattle.pf_group_rounds.specs.pf_group.specs.GroupIs.{GroupIs}
use Rattle.pf_group_rounds.specs.pf_group.specs.Making.{GroupIsMade, setup_with}
use Rattle.pf_group_rounds.proofs.NewGroups.{opening_is_applied}
use Rattle.pf_group_rounds.specs.pf_group.specs.Packets.{is_left_in}
use Rattle.pf_chunk.specs.Runs.{most_ports}
use Rattle.pf_chunk.specs.Views.{ChunkIsReady}
use Rattle.pf_chunk.proofs.RehomedPorts.{no_read}

no_reads : (setup : Setup) → 0 ≡ (opening setup).reads
unfolding opening
no_reads setup = refl

none_left : (setup : Setup) (k : ℕ) → is_left_in (opening setup) k ≡ false
unfolding opening
none_left setup k = refl

pub made_ready : (number sectors names format : ℕ) (told : Bool) (before : List (ℕ × ℕ)) (g : GroupIs) (answer : Answer) → GroupIsMade number sectors names format told before g answer → ChunkIsReady (record { group = g; waiting = []; first_left = 0; next = 0; ports = replicate most_ports new_port })
made_ready number sectors names format told before g answer made =
    let setup = setup_with sectors names format made.failed in
    let P : GroupIs → Type 0 = λ g. ChunkIsReady (record { group = g; waiting = []; first_left = 0; next = 0; ports = replicate most_ports new_port }) in
    subst P (sym made.is) (record {
      claims = refl;
      applied = λ told. opening_is_applied setup;
      kept = record {
        numbered = λ told. no_reads setup;
        listed = record { ascending = refl; servers = tt; pending = tt };
        ports_fit = record { count = length-replicate most_ports new_port; reads = λ m p n at sent. absurd (no_read most_ports m p at n sent) };
      };
      few = omega arith;
      first_sent = λ told. omega arith;
      none_left = λ told k _. none_left setup k;
    })
