-- What holds of the groups of a chunk, whichever groups other chunks have.
use Rattle.std.proofs.Common.{ℕ, ◌*◌, List}
use Rattle.pf_entry.specs.declared.ops.Op.{Op}
use Rattle.pf_protocol.specs.Groups.{Answered}
use Rattle.pf_law_positions.specs.Deeds.{Deed, DeedsFit, Groups, IsPort, WasGot, WasPut}
use Rattle.pf_law_positions.specs.Moves.{ChunkIsMoved}
use Rattle.pf_law_epochs.specs.Routed.{IsRouted}
use Rattle.pf_law_homes.specs.Chunks.{ChunkGroups, groups_in}

-- each chunk has groups of its own
abbrev pub spread : (ℕ → ChunkGroups) → Groups
spread of = record {
  moves = λ chunk. (of chunk).moves;
  setup = λ chunk epoch. (of chunk).setup epoch;
  history = λ chunk epoch. (of chunk).history epoch;
  writes = λ chunk epoch client. (of chunk).writes epoch client;
  moved = λ chunk epoch. (of chunk).moved epoch;
}

module _ (of : ℕ → ChunkGroups) (deeds : List Deed) (c : ℕ) where
  abbrev here : Groups
  here = groups_in (of c)

  port_copied : (epoch client : ℕ) → IsPort here deeds c epoch client → IsPort (spread of) deeds c epoch client
  port_copied epoch client p = record {
    happened = p.happened;
    handed = p.handed;
    in_order = p.in_order;
    term = p.term;
    in_term = p.in_term;
    no_lower = p.no_lower;
    again = p.again;
  }

  put_copied : (epoch client moment by : ℕ) (op : Op) → WasPut here deeds c epoch client moment by op → WasPut (spread of) deeds c epoch client moment by op
  put_copied epoch client moment by op w = record {
    asked = w.asked;
    pending = w.pending;
    k = w.k;
    submission = w.submission;
    there = w.there;
    is_it = w.is_it;
    is_last = w.is_last;
    slot = w.slot;
    took_slot = w.took_slot;
    term = w.term;
    in_term = w.in_term;
    n = w.n;
    acked = w.acked;
  }

  got_copied : (epoch client moment by : ℕ) (read : Answered) → WasGot here deeds c epoch client moment by read → WasGot (spread of) deeds c epoch client moment by read
  got_copied epoch client moment by read w = record {
    asked = w.asked;
    range = w.range;
    pending = w.pending;
    handed = w.handed;
    after = w.after;
    place = w.place;
    at = w.at;
    server = w.server;
    taken = w.taken;
    k = w.k;
    answered = w.answered;
  }

  fits_copied : DeedsFit here deeds c → DeedsFit (spread of) deeds c
  fits_copied f = record {
    places = f.places;
    rises = f.rises;
    goes_on = f.goes_on;
    reached = f.reached;
    port = λ epoch client le. port_copied epoch client (f.port epoch client le);
    waits = f.waits;
    put = λ client moment epoch by op ask at. put_copied epoch client moment by op (f.put client moment epoch by op ask at);
    got = λ client moment epoch by read ask at. got_copied epoch client moment by read (f.got client moment epoch by read ask at);
  }

  moved_copied : (first epoch : ℕ) (last : Answered) → ChunkIsMoved here deeds c first epoch last → ChunkIsMoved (spread of) deeds c first epoch last
  moved_copied first epoch last m = record {
    k = m.k;
    answered = m.answered;
    from = m.from;
    eight = m.eight;
    place = m.place;
    server = m.server;
    taken = m.taken;
    after_move = m.after_move;
    after_answers = m.after_answers;
    rule = m.rule;
    same = m.same;
    all = m.all;
    clients_wait = m.clients_wait;
  }

  pub routed_copied : (piece : ℕ) → IsRouted here deeds c piece → IsRouted (spread of) deeds c piece
  routed_copied piece r = record {
    fits = fits_copied r.fits;
    legal = r.legal;
    inside = r.inside;
    of_ports = r.of_ports;
    last = r.last;
    moved = λ epoch lt. moved_copied (8 * piece) epoch (r.last epoch) (r.moved epoch lt);
  }
