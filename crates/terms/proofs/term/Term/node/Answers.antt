use Rattle.std.proofs.Common.{sym, ap, ◌∙◌, arith}
use Rattle.terms.specs.Heads.{parts_of}
use Rattle.terms.specs.Reading.{tree_of}
use Rattle.terms.specs.Views.{process_of, count_of}
use Rattle.terms.proofs.Nodes.{term_headed}
use Rattle.terms.proofs.Taken.{below_term, below_two, terminated_is, output_is, output_few, input_is, input_few, restriction_is, replication_is, choice_is, parallel_is}
use Rattle.terms.proofs.term.Term.node.Goals as goal

pub unreachable-requires : goal.unreachable-requires
unreachable-requires c = term_headed c.bytes-bytes.result.now c.bytes-bytes.ensures.term c.in_default.field-0 c.in_default.ensures.answer

pub known-requires : goal.known-requires
known-requires c = below_term c.bytes-bytes.result.now c.bytes-bytes.ensures.term c.in-Ok.head c.in-Ok.ensures.answer c.size-size.result c.size-size.ensures (sym (ap parts_of c.in-Output.is))

pub known-requires-in-Input : goal.known-requires-in-Input
known-requires-in-Input c = below_term c.bytes-bytes.result.now c.bytes-bytes.ensures.term c.in-Ok.head c.in-Ok.ensures.answer c.size-size.result c.size-size.ensures (sym (ap parts_of c.in-Input.is))

pub known-requires-in-Restriction : goal.known-requires-in-Restriction
known-requires-in-Restriction c = below_term c.bytes-bytes.result.now c.bytes-bytes.ensures.term c.in-Ok.head c.in-Ok.ensures.answer c.size-size.result c.size-size.ensures (sym (ap parts_of c.in-Restriction.is))

pub known-requires-in-Replication : goal.known-requires-in-Replication
known-requires-in-Replication c = below_term c.bytes-bytes.result.now c.bytes-bytes.ensures.term c.in-Ok.head c.in-Ok.ensures.answer c.size-size.result c.size-size.ensures (sym (ap parts_of c.in-Replication.is))

pub both-requires : goal.both-requires
both-requires c = below_two c.bytes-bytes.result.now c.bytes-bytes.ensures.term c.in-Ok.head c.in-Ok.ensures.answer c.size-size.result c.size-size.ensures (sym (ap parts_of c.in-Choice.is))

pub both-requires-in-Parallel : goal.both-requires-in-Parallel
both-requires-in-Parallel c = below_two c.bytes-bytes.result.now c.bytes-bytes.ensures.term c.in-Ok.head c.in-Ok.ensures.answer c.size-size.result c.size-size.ensures (sym (ap parts_of c.in-Parallel.is))

pub returns-in-Terminated : goal.returns-in-Terminated
unfolding process_of count_of
returns-in-Terminated c = record {
  process = terminated_is c.bytes-bytes.result.now c.bytes-bytes.ensures.term c.in-Ok.head c.in-Ok.ensures.answer c.size-size.result c.size-size.ensures c.in-Terminated.is
      ∙ ap tree_of c.bytes-bytes.ensures.bytes;
  few = omega arith;
}

pub returns-in-Output : goal.returns-in-Output
unfolding process_of count_of
returns-in-Output c = record {
  process = output_is c.bytes-bytes.result.now c.bytes-bytes.ensures.term c.in-Ok.head c.in-Ok.ensures.answer c.size-size.result c.size-size.ensures
      c.in-Output.subject c.in-Output.count c.in-Output.is c.known.result.bytes.now c.known.ensures ∙ ap tree_of c.bytes-bytes.ensures.bytes;
  few = output_few c.bytes-bytes.result.now c.bytes-bytes.ensures.term c.in-Ok.head c.in-Ok.ensures.answer c.size-size.result c.size-size.ensures
      c.in-Output.subject c.in-Output.count c.in-Output.is;
}

pub returns-in-Input : goal.returns-in-Input
unfolding process_of count_of
returns-in-Input c = record {
  process = input_is c.bytes-bytes.result.now c.bytes-bytes.ensures.term c.in-Ok.head c.in-Ok.ensures.answer c.size-size.result c.size-size.ensures
      c.in-Input.subject c.in-Input.count c.in-Input.is c.known-in-Input.result.bytes.now c.known-in-Input.ensures ∙ ap tree_of c.bytes-bytes.ensures.bytes;
  few = input_few c.bytes-bytes.result.now c.bytes-bytes.ensures.term c.in-Ok.head c.in-Ok.ensures.answer c.size-size.result c.size-size.ensures
      c.in-Input.subject c.in-Input.count c.in-Input.is;
}

pub returns-in-Restriction : goal.returns-in-Restriction
unfolding process_of count_of
returns-in-Restriction c = record {
  process = restriction_is c.bytes-bytes.result.now c.bytes-bytes.ensures.term c.in-Ok.head c.in-Ok.ensures.answer c.size-size.result c.size-size.ensures
      c.in-Restriction.sort c.in-Restriction.is c.known-in-Restriction.result.bytes.now c.known-in-Restriction.ensures ∙ ap tree_of c.bytes-bytes.ensures.bytes;
  few = omega arith;
}

pub returns-in-Replication : goal.returns-in-Replication
unfolding process_of count_of
returns-in-Replication c = record {
  process = replication_is c.bytes-bytes.result.now c.bytes-bytes.ensures.term c.in-Ok.head c.in-Ok.ensures.answer c.size-size.result c.size-size.ensures
      c.in-Replication.is c.known-in-Replication.result.bytes.now c.known-in-Replication.ensures ∙ ap tree_of c.bytes-bytes.ensures.bytes;
  few = omega arith;
}

pub returns-in-Choice : goal.returns-in-Choice
unfolding process_of count_of
returns-in-Choice c = record {
  process = choice_is c.bytes-bytes.result.now c.bytes-bytes.ensures.term c.in-Ok.head c.in-Ok.ensures.answer c.size-size.result c.size-size.ensures
      c.both.result.0.bytes.now c.both.result.1.bytes.now c.both.ensures c.in-Choice.is ∙ ap tree_of c.bytes-bytes.ensures.bytes;
  few = omega arith;
}

pub returns-in-Parallel : goal.returns-in-Parallel
unfolding process_of count_of
returns-in-Parallel c = record {
  process = parallel_is c.bytes-bytes.result.now c.bytes-bytes.ensures.term c.in-Ok.head c.in-Ok.ensures.answer c.size-size.result c.size-size.ensures
      c.both-in-Parallel.result.0.bytes.now c.both-in-Parallel.result.1.bytes.now c.both-in-Parallel.ensures c.in-Parallel.is ∙ ap tree_of c.bytes-bytes.ensures.bytes;
  few = omega arith;
}
