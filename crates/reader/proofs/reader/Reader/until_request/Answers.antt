use Rattle.std.proofs.Common.{sym, ap, ◌∙◌, arith}
use Rattle.reader.specs.Requests.{any_requests}
use Rattle.reader.proofs.Stopping.{stops_at_request, stops_here, goes_on, stops_at_end}
use Rattle.reader.proofs.reader.Reader.until_request.Goals as goal

pub loop-i-preserved : goal.loop-i-preserved
loop-i-preserved c =
    goes_on _ _ _ c.args.bytes.now c.loop-i-test.true c.loop-i.invariant _ c.step.ensures.standing (sym (ap any_requests c.step.ensures.completes) ∙ sym c.if-requests_reply.ensures)

pub returns-then-requests_reply : goal.returns-then-requests_reply
returns-then-requests_reply c = record {
  answer = stops_here _ _ _ c.args.bytes.now c.loop-i-test.true c.loop-i.invariant _ (sym (ap any_requests c.step.ensures.completes)) (sym c.if-requests_reply.ensures);
  stops = stops_at_request;
}

pub returns : goal.returns
returns c = record { answer = stops_at_end _ _ _ c.args.bytes.now (omega arith) c.loop-i-test.false c.loop-i.invariant; stops = stops_at_request }
