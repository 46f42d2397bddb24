use Rattle.std.proofs.Common.{◌<◌, subst, sym}
use Rattle.std.specs.Prelude.{Result}
use Rattle.cp_read.specs.declared.frame.Turn.{Turn}
use Rattle.cp_read.specs.declared.frame.Turn.TheVariants as turns
use Rattle.cp_read.specs.declared.frame.Stop as frame
use Rattle.cp_read.specs.Stands.{Reached, Steps, left_to_do}
use Rattle.cp_read.proofs.lemmas.RunLaws.{first_state, begins, goes_on, falls, stops_so}
use Rattle.cp_read.proofs.machine.Machine.run.Goals as goal

pub loop-turn-init : goal.loop-turn-init
loop-turn-init c = begins c.args.ops.now c.args.self.now c.requires

pub loop-turn-smaller-in-Ok : goal.loop-turn-smaller-in-Ok
loop-turn-smaller-in-Ok c =
    let turn : Turn = turns.Expects c.in-Expects.max in
    let now = subst (λ (u : Turn). Reached c.args.ops.now (first_state c.args.self.now.tokens) u c.loop-turn.self) c.in-Expects.is c.loop-turn.invariant in
    subst (λ (u : Turn). left_to_do c.in-Ok.next c.operand.new.self < left_to_do u c.loop-turn.self) (sym c.in-Expects.is)
    (falls c.args.ops.now (now.0) turn c.in-Ok.next c.loop-turn.self c.operand.new.self (now.1) (subst (λ (x : Result Turn frame.Stop). Steps c.args.ops.now (now.0) x c.operand.new.self) c.in-Ok.is (c.operand.ensures (now.0) (now.1))))

pub loop-turn-preserved-in-Ok : goal.loop-turn-preserved-in-Ok
loop-turn-preserved-in-Ok c =
    let turn : Turn = turns.Expects c.in-Expects.max in
    let now = subst (λ (u : Turn). Reached c.args.ops.now (first_state c.args.self.now.tokens) u c.loop-turn.self) c.in-Expects.is c.loop-turn.invariant in
    goes_on c.args.ops.now (first_state c.args.self.now.tokens) (now.0) c.in-Ok.next c.operand.new.self (now.2) (subst (λ (x : Result Turn frame.Stop). Steps c.args.ops.now (now.0) x c.operand.new.self) c.in-Ok.is (c.operand.ensures (now.0) (now.1)))

pub returns-in-Err : goal.returns-in-Err
returns-in-Err c =
    let turn : Turn = turns.Expects c.in-Expects.max in
    let now = subst (λ (u : Turn). Reached c.args.ops.now (first_state c.args.self.now.tokens) u c.loop-turn.self) c.in-Expects.is c.loop-turn.invariant in
    stops_so c.args.ops.now c.args.self.now.tokens (now.0) c.in-Err.stop c.operand.new.self (now.2) (subst (λ (x : Result Turn frame.Stop). Steps c.args.ops.now (now.0) x c.operand.new.self) c.in-Err.is (c.operand.ensures (now.0) (now.1)))

pub loop-turn-smaller : goal.loop-turn-smaller
loop-turn-smaller c =
    let turn : Turn = turns.Has c.in-Has.start c.in-Has.priority c.in-Has.max in
    let now = subst (λ (u : Turn). Reached c.args.ops.now (first_state c.args.self.now.tokens) u c.loop-turn.self) c.in-Has.is c.loop-turn.invariant in
    subst (λ (u : Turn). left_to_do c.in-Ok-go_on.next c.go_on.new.self < left_to_do u c.loop-turn.self) (sym c.in-Has.is)
    (falls c.args.ops.now (now.0) turn c.in-Ok-go_on.next c.loop-turn.self c.go_on.new.self (now.1) (subst (λ (x : Result Turn frame.Stop). Steps c.args.ops.now (now.0) x c.go_on.new.self) c.in-Ok-go_on.is (c.go_on.ensures (now.0) (now.1))))

pub loop-turn-preserved : goal.loop-turn-preserved
loop-turn-preserved c =
    let turn : Turn = turns.Has c.in-Has.start c.in-Has.priority c.in-Has.max in
    let now = subst (λ (u : Turn). Reached c.args.ops.now (first_state c.args.self.now.tokens) u c.loop-turn.self) c.in-Has.is c.loop-turn.invariant in
    goes_on c.args.ops.now (first_state c.args.self.now.tokens) (now.0) c.in-Ok-go_on.next c.go_on.new.self (now.2) (subst (λ (x : Result Turn frame.Stop). Steps c.args.ops.now (now.0) x c.go_on.new.self) c.in-Ok-go_on.is (c.go_on.ensures (now.0) (now.1)))

pub returns-in-Err-go_on : goal.returns-in-Err-go_on
returns-in-Err-go_on c =
    let turn : Turn = turns.Has c.in-Has.start c.in-Has.priority c.in-Has.max in
    let now = subst (λ (u : Turn). Reached c.args.ops.now (first_state c.args.self.now.tokens) u c.loop-turn.self) c.in-Has.is c.loop-turn.invariant in
    stops_so c.args.ops.now c.args.self.now.tokens (now.0) c.in-Err-go_on.stop c.go_on.new.self (now.2) (subst (λ (x : Result Turn frame.Stop). Steps c.args.ops.now (now.0) x c.go_on.new.self) c.in-Err-go_on.is (c.go_on.ensures (now.0) (now.1)))
