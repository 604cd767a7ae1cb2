use Rattle.std.proofs.Common.{◌≡◌, ◌+◌, ◌≤◌, length}
use Rattle.std.specs.Iterator.Adapters.{zip_first, zip_second}
use Rattle.std.specs.Slice.Iter.{chunks_rest, chunks_size}
use Rattle.session.specs.Running.{Ran}
use Rattle.session.proofs.session.Session.run.Given as goal

abbrev pub invariant-loop-place : goal.invariant-loop-place
invariant-loop-place g l = record {
  can_next : (goal.iterator-loop-place g).can_next l.place-iterator;
  finite : (goal.iterator-loop-place g).is_finite l.place-iterator;
  callable : goal.F-IsAlwaysCallable g l.print;
  eight : chunks_size (zip_second l.place-iterator) ≡ 8;
  below : (zip_first l.place-iterator).start + length (chunks_rest (zip_second l.place-iterator)) ≤ 1 + length l.records;
  goes_on : (last : _) (f : _) (r : _) → Ran (λ f line r h. goal.F-step g f line r h) l.self l.print (zip_first l.place-iterator).start (chunks_rest (zip_second l.place-iterator)) last f r → Ran (λ f line r h. goal.F-step g f line r h) l.fn.self l.fn.print 1 l.records last f r;
}
