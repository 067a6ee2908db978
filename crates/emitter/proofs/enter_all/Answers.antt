-- No chunk, one chunk more, and all, with the whole rule's record. There is room for each record's node.
use Rattle.std.proofs.Common.{arith}
use Rattle.node_table.proofs.Found.{node-found}
use Rattle.emitter.proofs.Records.{entering-none, entering-one, entering-all}
use Rattle.emitter.proofs.enter_all.Goals as goal

pub loop-numbers-init : goal.loop-numbers-init
loop-numbers-init c = entering-none _ _ _ _ _ _ c.new-stack.ensures

pub enter-m-requires : goal.enter-m-requires
enter-m-requires c =
    record {
      room = record { near = omega arith; tested = omega arith; low = omega arith };
      node =
          node-found _ c.record_of-x.result.kind c.place_of.result _ c.all_nodes-nodes.ensures.nodes c.place_of.ensures;
    }

pub loop-numbers-preserved : goal.loop-numbers-preserved
loop-numbers-preserved c =
    entering-one c.loop-numbers.invariant c.loop-numbers-test.true c.record_of-x.ensures c.enter-m.ensures

pub enter-requires : goal.enter-requires
enter-requires c =
    record {
      room = record { near = omega arith; tested = omega arith; low = omega arith };
      node = node-found _ _ c.place_of-2.result _ c.all_nodes-nodes.ensures.nodes c.place_of-2.ensures;
    }

pub returns : goal.returns
returns c =
    entering-all c.loop-numbers.invariant c.as_chunks.ensures.front c.loop-numbers-test.false (omega arith)
    c.enter.ensures
