use Rattle.std.proofs.Common.{◌≡◌}
use Rattle.std.specs.Slice.Iter.{chunks_rest, chunks_size}
use Rattle.page.specs.Plain.{on_panel}
use Rattle.turns.proofs.Quiet.{Sending}
use Rattle.turns.proofs.copying.deliver_all.Given as goal

abbrev pub invariant-loop-piece : goal.invariant-loop-piece
invariant-loop-piece g l =
    let shows = g.P.Panel.shows in
    record {
      can : (goal.iterator-loop-piece g).can_next l.piece-iterator;
      finite : (goal.iterator-loop-piece g).is_finite l.piece-iterator;
      size : chunks_size l.piece-iterator ≡ 4096;
      sending : Sending (on_panel l.initial.page (shows l.initial.panel)) (on_panel l.page (shows l.panel)) l.bytes (chunks_rest l.piece-iterator);
    }
