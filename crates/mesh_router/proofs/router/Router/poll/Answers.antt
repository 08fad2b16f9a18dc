use Rattle.std.proofs.Common.{length, arith, ◌≡◌, ℕ, List, Option, Ok, refl, ap, subst}
use Rattle.std.proofs.lemmas.Result.{err_from_is_err_and}
use Rattle.mesh_link.specs.Datagrams.{Datagram, Receives}
use Rattle.mesh_router.specs.declared.limits.TheConstants.{MOST_RECEIVED}
use Rattle.mesh_router.specs.Polls.{none_line}
use Rattle.mesh_router.proofs.Logging.{adds-text, prefix-text}
use Rattle.mesh_router.proofs.Memory.{memory_of}
use Rattle.mesh_router.proofs.Finds.{none_received, received_of}
use Rattle.mesh_router.proofs.Polling.{nothing_polled, none_polled, short_one, received_in_part, received_told, poll_fault}
use Rattle.mesh_router.proofs.router.Router.poll.Goals as goal

pub returns-in_err-receive-clause-poll : goal.returns-in_err-receive-clause-poll
returns-in_err-receive-clause-poll g c =
    poll_fault _ _ _ _ _ _ c.from_residual.result c.from_residual.ensures.0
    (λ others. nothing_polled _ _ _ _ _ _ c.in_err-receive.ensures.arrived (ap (λ (s : Option (List Datagram)). (g.O.Sink.held c.args.out.now, s)) c.in_err-receive.ensures.sent))

pub returns-in_err-put_all-in-None-clause-poll : goal.returns-in_err-put_all-in-None-clause-poll
returns-in_err-put_all-in-None-clause-poll g c =
    let found = none_received (g.L.Link.arrived c.args.link.now) (g.L.Link.arrived c.receive.new.self) c.receive.new.buf
    (subst (λ (o : Option (ℕ × ℕ)). Receives (g.L.Link.arrived c.args.link.now) (g.L.Link.arrived c.receive.new.self) (Ok o) c.receive.new.buf) c.in-None.is c.in_ok-receive.ensures.arrived) in
    poll_fault _ _ _ _ _ _ c.from_residual-in_err-put_all-in-None.result c.from_residual-in_err-put_all-in-None.ensures.0
    (λ others. none_polled others _ _ _ _ _ found (prefix-text _ _ _ _ none_line c.in_ok-receive.ensures.sent c.in_err-put_all-in-None.ensures.text))

pub returns-in_err-take-in-Some-clause-poll : goal.returns-in_err-take-in-Some-clause-poll
returns-in_err-take-in-Some-clause-poll g c =
    let size : length c.receive.new.buf ≡ MOST_RECEIVED = omega (arith, c.receive.ensures.length) in
    let found = received_of (g.L.Link.arrived c.args.link.now) (g.L.Link.arrived c.receive.new.self) c.in_ok-receive.field-0 c.in-Some.port c.in-Some.size c.receive.new.buf c.in-Some.is size c.in_ok-receive.ensures.bound c.in_ok-receive.ensures.arrived in
    poll_fault _ _ _ _ _ _ c.from_residual-in_err-take-in-Some.result c.from_residual-in_err-take-in-Some.ensures.0
    (λ others. received_in_part others _ _ _ _ _ _ _ _ _ c.in_ok-receive.ensures.sent found c.in_err-take-in-Some.ensures.taken)

pub returns-in_ok-take-in-Some-clause-poll : goal.returns-in_ok-take-in-Some-clause-poll
returns-in_ok-take-in-Some-clause-poll g c =
    let size : length c.receive.new.buf ≡ MOST_RECEIVED = omega (arith, c.receive.ensures.length) in
    let found = received_of (g.L.Link.arrived c.args.link.now) (g.L.Link.arrived c.receive.new.self) c.in_ok-receive.field-0 c.in-Some.port c.in-Some.size c.receive.new.buf c.in-Some.is size c.in_ok-receive.ensures.bound c.in_ok-receive.ensures.arrived in
    received_told _ _ _ _ _ _ _ _ _ _ c.in_ok-receive.ensures.sent found c.in_ok-take-in-Some.ensures.taken.0 c.in_ok-take-in-Some.ensures.taken.1

pub returns-in_err-take-in-Some-clause-memory : goal.returns-in_err-take-in-Some-clause-memory
returns-in_err-take-in-Some-clause-memory g c = λ is.
    let size : length c.receive.new.buf ≡ MOST_RECEIVED = omega (arith, c.receive.ensures.length) in
    let found = received_of (g.L.Link.arrived c.args.link.now) (g.L.Link.arrived c.receive.new.self) c.in_ok-receive.field-0 c.in-Some.port c.in-Some.size c.receive.new.buf c.in-Some.is size c.in_ok-receive.ensures.bound c.in_ok-receive.ensures.arrived in
    let q = err_from_is_err_and c.from_residual-in_err-take-in-Some.result c.from_residual-in_err-take-in-Some.ensures.1 in
    short_one _ _ _ _ _ found (c.in_err-take-in-Some.ensures.memory (memory_of _ q.0 _ q.1 q.2 is))

pub returns-in_ok-put_all-in-None-clause-poll : goal.returns-in_ok-put_all-in-None-clause-poll
returns-in_ok-put_all-in-None-clause-poll g c =
    let found = none_received (g.L.Link.arrived c.args.link.now) (g.L.Link.arrived c.receive.new.self) c.receive.new.buf
    (subst (λ (o : Option (ℕ × ℕ)). Receives (g.L.Link.arrived c.args.link.now) (g.L.Link.arrived c.receive.new.self) (Ok o) c.receive.new.buf) c.in-None.is c.in_ok-receive.ensures.arrived) in
    record {
      taken = found;
      same = refl;
      adds = adds-text _ _ _ _ none_line c.in_ok-receive.ensures.sent c.in_ok-put_all-in-None.ensures.text;
    }
