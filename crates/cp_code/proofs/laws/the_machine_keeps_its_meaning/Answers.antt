use Rattle.cp_code.proofs.Moves.{move_means, still_told, first_means, ready_still, ready_answers}
use Rattle.cp_code.proofs.Kept.{move_ok, told_ok, first_ok}
use Rattle.cp_code.proofs.laws.the_machine_keeps_its_meaning.Goals as goal

pub returns : goal.returns
returns c =
    record {
      first = λ code goal. (first_ok code goal, λ inputs. first_means code goal inputs);
      moves = λ code goal st ok. (move_ok code goal st ok, λ inputs. move_means code goal inputs st ok);
      inputs = λ code goal st n is. (ready_answers code goal st n is, λ i. (told_ok st i, λ inputs. still_told code goal i inputs st (ready_still st n is)));
    }
