-- `feeder::finish` meets its contract: what the end of the input says is placed at the front of out. Assumes nothing.
use Rattle.std.proofs.Common.{◌+◌, ◌≤◌, ◌∙◌, sym, ap, ℕ, length, take, arith}
use Rattle.std.proofs.Math.Seq.{length-take-le}
use Rattle.cards.specs.Says.{end_says}
use Rattle.player.specs.Card.{world_of, last_output}
use Rattle.player.specs.Output.{output_bytes}
use Rattle.player.proofs.Paying.{output-small}
use Rattle.player.proofs.Playing.{said-last}
use Rattle.feeder.proofs.Resuming.{ends}
use Rattle.feeder.proofs.Moving.{put-takes, put_keeps, put-length}
use Rattle.feeder.proofs.finish.Goals as goal

pub put-requires : goal.put-requires
put-requires c = omega (arith, output-small c.last_output-output.result)

pub returns : goal.returns
returns c =
    let args = c.args in
    let pre = c.requires in
    let put = c.put.ensures in
    let word = output_bytes c.last_output-output.result in
    let h : 0 + length word ≤ length args.out.now = omega (arith, output-small c.last_output-output.result) in
    let said = said-last _ _ c.last_output-output.ensures c.end.ensures in
    record {
      tells = λ ps t s v.
          ends (world_of args.w ps t s v) (take args.to args.buf.now) pre.1.0
          ∙ ap (λ (n : ℕ). output_bytes (last_output (end_says args.w.stage n)))
          (length-take-le args.to args.buf.now pre.0)
          ∙ ap output_bytes (sym said)
          ∙ sym (put-takes args.out.now word 0 put.0 put.1 h);
      kept = put_keeps args.out.now word 0 put.0 put.1 h;
      room = omega (arith, h, put.0, put-length args.out.now word 0 put.0 put.1 h);
    }
