use Rattle.std.proofs.Common.{◌≡◌, true}
use Rattle.cp_call.specs.Added.{AsksForOne, WritesForOne}
use Rattle.cp_call.specs.Life as life
use Rattle.cp_shell.proofs.Driving.{HasDrivenOn}
use Rattle.cp_shell.proofs.Resting.{IsAtWork}
use Rattle.cp_shell.proofs.shell.Shell.drive.Given as goal

abbrev pub invariant-loop : goal.invariant-loop
invariant-loop g l = record {
  number : l.self.number ≡ l.fn.self.number;
  code : g.M.Machine.code l.self.machine ≡ g.M.Machine.code l.fn.self.machine;
  driven : HasDrivenOn g.C.Caller.went (g.A.Asker.objects l.fn.asker) (g.A.Asker.seen l.fn.asker) (g.A.Asker.seen l.asker) (g.P.Writer.wrote l.fn.port) (g.P.Writer.wrote l.port) l.fn.caller l.caller l.fn.self.number l.fn.self.items l.self.items;
  life : life.IsWorkersLife (g.M.Rule.Asks.asks (g.M.Machine.code l.fn.self.machine)) l.fn.self.items → life.IsWorkersLife (g.M.Rule.Asks.asks (g.M.Machine.code l.fn.self.machine)) l.self.items;
  work : IsAtWork (λ m. g.M.Rule.Asks.asks (g.M.Machine.code m)) (g.A.Asker.objects l.asker) (g.A.Asker.seen l.asker) (g.P.Writer.wrote l.port) l.self;
  stopped : l.fn.self.is_stopped ≡ true → l.self ≡ l.fn.self;
  others : AsksForOne l.fn.self.number (g.A.Asker.objects l.fn.asker) (g.A.Asker.objects l.asker) (g.A.Asker.serves l.fn.asker) (g.A.Asker.serves l.asker) (g.A.Asker.seen l.fn.asker) (g.A.Asker.seen l.asker) (g.A.Asker.looked l.fn.asker) (g.A.Asker.looked l.asker);
  others_written : WritesForOne l.fn.self.number (g.P.Writer.serves l.fn.port) (g.P.Writer.serves l.port) (g.P.Writer.wrote l.fn.port) (g.P.Writer.wrote l.port);
  asker : g.A.Asker.stays l.fn.asker l.asker;
  port : g.P.Writer.stays l.fn.port l.port;
}
