use Rattle.std.proofs.Common.{◌≡◌, ◌+◌, Ok, Err, ap, ◌∙◌, arith, of_calls, length, inl, inr}
use Rattle.std.proofs.lemmas.Result.{err_from_is_err_and}
use Rattle.std.specs.Iterator.Adapters.{zip_first, zip_second}
use Rattle.std.specs.Slice.Iter.{chunks_rest, chunks_size}
use Rattle.session.specs.Running.{Taken}
use Rattle.session.specs.Running.Ran.{at_end}
use Rattle.session.proofs.Running.{waited, answered, broke, was_refused, began, front, fewer}
use Rattle.session.proofs.session.Session.run.Goals as goal

pub loop-place-init : goal.loop-place-init
loop-place-init g c =
    let made = c.into_iter-place-iterator.ensures.into_iter_gives in
    let place : (zip_first c.into_iter-place-iterator.result).start ≡ 1 = rw (made, c.zip-place-items.ensures.first) in
    let source = ap zip_second made ∙ c.zip-place-items.ensures.second in
    let rest : chunks_rest (zip_second c.into_iter-place-iterator.result) ≡ c.args.records.now = ap chunks_rest source ∙ c.chunks.ensures.rest in
    let size : chunks_size (zip_second c.into_iter-place-iterator.result) ≡ 8 = ap chunks_size source ∙ c.chunks.ensures.size in
    record {
      can_next = (tt, omega arith);
      finite = tt;
      callable = c.requires;
      eight = size;
      below = omega (arith, ap length rest);
      goes_on = λ last f r ran. began _ place rest ran;
    }

pub loop-place-preserved-in-Ok-None : goal.loop-place-preserved-in-Ok-None
loop-place-preserved-in-Ok-None g c =
    let steps = c.in-Some.ensures.steps in
    let next : (zip_first c.next.new.self).start ≡ (zip_first c.loop-place.place-iterator).start + 1 = steps.0.1 ∙ ap (λ n. n + 1) steps.0.0 in
    let here = front _ c.loop-place.invariant.eight steps.1.1.0 steps.1.1.1 steps.1.1.2 in
    let size = steps.1.0 ∙ c.loop-place.invariant.eight in
    let e = c.take.ensures in
    let taken : Taken c.loop-place.self c.in-Some.bytes.now c.take.new.self c.take.result = record { refused = e.refused; accepted = e.accepted; table = e.table; predicates = e.predicates; goals = e.goals; answers = e.answers; line = e.line } in
    record {
      can_next = (tt, omega arith);
      finite = tt;
      callable = c.loop-place.invariant.callable;
      eight = size;
      below = fewer _ _ _ _ _ _ here next c.loop-place.invariant.below;
      goes_on = λ last f r ran. c.loop-place.invariant.goes_on last f r (waited _ here taken (c.in-Ok-None.is ∙ ap Ok c.in-Ok-None.field-0-is) next ran);
    }

pub loop-place-preserved : goal.loop-place-preserved
loop-place-preserved g c =
    let steps = c.in-Some.ensures.steps in
    let next : (zip_first c.next.new.self).start ≡ (zip_first c.loop-place.place-iterator).start + 1 = steps.0.1 ∙ ap (λ n. n + 1) steps.0.0 in
    let here = front _ c.loop-place.invariant.eight steps.1.1.0 steps.1.1.1 steps.1.1.2 in
    let size = steps.1.0 ∙ c.loop-place.invariant.eight in
    let e = c.take.ensures in
    let taken : Taken c.loop-place.self c.in-Some.bytes.now c.take.new.self c.take.result = record { refused = e.refused; accepted = e.accepted; table = e.table; predicates = e.predicates; goals = e.goals; answers = e.answers; line = e.line } in
    record {
      can_next = (tt, omega arith);
      finite = tt;
      callable = search of_calls;
      eight = size;
      below = fewer _ _ _ _ _ _ here next c.loop-place.invariant.below;
      goes_on = λ last f r ran. c.loop-place.invariant.goes_on last f r (answered _ here taken (c.in-Ok-Some.is ∙ ap Ok c.in-Ok-Some.field-0-is) c.print.ensures c.in_ok-print-in-Ok-Some.was next ran);
    }

pub returns-in_err-print-in-Ok-Some : goal.returns-in_err-print-in-Ok-Some
returns-in_err-print-in-Ok-Some g c =
    let steps = c.in-Some.ensures.steps in
    let here = front _ c.loop-place.invariant.eight steps.1.1.0 steps.1.1.1 steps.1.1.2 in
    let e = c.take.ensures in
    let taken : Taken c.loop-place.self c.in-Some.bytes.now c.take.new.self c.take.result = record { refused = e.refused; accepted = e.accepted; table = e.table; predicates = e.predicates; goals = e.goals; answers = e.answers; line = e.line } in
    let p = err_from_is_err_and c.from_residual.result c.from_residual.ensures.1 in
    (c.print.new.self, c.loop-place.invariant.goes_on _ _ _ (broke _ here taken (c.in-Ok-Some.is ∙ ap Ok c.in-Ok-Some.field-0-is) c.print.ensures c.in_err-print-in-Ok-Some.was (p.1 ∙ ap Err p.2)))

pub returns-in-Err : goal.returns-in-Err
returns-in-Err g c =
    let steps = c.in-Some.ensures.steps in
    let here = front _ c.loop-place.invariant.eight steps.1.1.0 steps.1.1.1 steps.1.1.2 in
    let e = c.take.ensures in
    let taken : Taken c.loop-place.self c.in-Some.bytes.now c.take.new.self c.take.result = record { refused = e.refused; accepted = e.accepted; table = e.table; predicates = e.predicates; goals = e.goals; answers = e.answers; line = e.line } in
    (c.print-in-Err.new.self, c.loop-place.invariant.goes_on _ _ _ (was_refused _ here taken c.in-Err.is c.refusal_line.ensures.text steps.0.0 c.print-in-Err.ensures))

pub returns : goal.returns
returns g c =
    elim c.in-None.ensures.steps [ inl p ↦ absurd (omega (arith, p.1.0)) | inr p ↦ (c.loop-place.print, c.loop-place.invariant.goes_on _ _ _ (at_end p.1.1.0)) ]
