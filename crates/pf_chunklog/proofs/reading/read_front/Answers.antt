use Rattle.std.proofs.Common.{rules, ◌≡◌, ◌≤◌, ◌++◌, List, ℕ, IfSome, length, take, sym, subst, ◌∙◌, arith}
use Rattle.pf_chunklog.proofs.Steps.{told, if_some}
use Rattle.pf_chunklog.proofs.Parts.{front_more}
use Rattle.pf_chunklog.proofs.reading.read_front.Goals as goal

pub loop-piece-preserved : goal.loop-piece-preserved
loop-piece-preserved g c =
    let new : List ℕ = c.extend_from_slice.new.self.items in
    let is_more : new ≡ c.loop-piece.bytes.items ++ take c.in_ok-count.count c.read.new.buf = c.in_ok-extend_from_slice.ensures.items in
    let place : c.len-in-loop-piece.result ≡ length c.loop-piece.bytes.items = omega (arith, c.len-in-loop-piece.ensures) in
    let both : IfSome (g.D.Disk.seen c.args.disk.now) (λ file. (new ≡ take (length new) file) × (length new ≤ length file)) =
    if_some (g.D.Disk.seen c.args.disk.now) (λ file. (new ≡ take (length new) file) × (length new ≤ length file)) (λ file is.
    subst (λ (l : List ℕ). (l ≡ take (length l) file) × (length l ≤ length file)) (sym is_more)
    (front_more file c.loop-piece.bytes.items c.read.new.buf c.len-in-loop-piece.result c.in_ok-count.count place (told _ file _ is c.loop-piece.invariant.bytes) (told _ file _ is c.loop-piece.invariant.within)
    (told _ file _ (c.loop-piece.invariant.only_read.same ∙ is) c.in_ok-count.ensures.bytes))) in
    record {
      bytes = if_some (g.D.Disk.seen c.args.disk.now) (λ file. new ≡ take (length new) file) (λ file is. (told _ file _ is both).0);
      within = if_some (g.D.Disk.seen c.args.disk.now) (λ file. length new ≤ length file) (λ file is. (told _ file _ is both).1);
      only_read = search rules;
      any_moment = search rules;
      later = search rules;
    }
