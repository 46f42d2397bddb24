use Rattle.cp_code.proofs.Instrumented.{instrumented_asks, instrumented_again, programs_are_plain}
use Rattle.cp_code.specs.Programs.{code_of}
use Rattle.cp_code.proofs.laws.instrumenting_keeps_what_is_asked.Goals as goal

pub returns : goal.returns
returns c =
    record {
      asks = instrumented_asks;
      again = instrumented_again;
      programs = programs_are_plain;
      loaded = λ p budget goal inputs. instrumented_asks (code_of p budget) (programs_are_plain p budget) goal inputs;
    }
