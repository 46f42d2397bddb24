-- What `clap` makes of the words that are handed to it.
use Rattle.std.proofs.Common.{◌≡◌, ◌∙◌, ◌&&◌, ◌++◌, Bool, true, false, List, [], ◌∷◌, Some, codes, refl}
use Rattle.std.specs.Prelude.{pos}
use Rattle.clap.specs.Words.{Text, takes, matches_of, one_of, first_of, without_minus}
use Rattle.clap.specs.ValueTests.{accepts, is_signed_in, is_unsigned_in}
use Rattle.clap.specs.declared.builder.value_parser.ValueParser.{ValueParser}
use Rattle.clap.specs.declared.builder.value_parser.ValueParser.TheVariants as vp
use Rattle.clap.proofs.OnLiterals.{clap_on_literals}
use Rattle.cp_words.specs.Readers.{check_app, sim_app, sim_app_of, gen_app, from_one}

pub check_takes : (file : Text) → takes check_app (codes "check" ∷ codes "--" ∷ file ∷ []) ≡ true
unfolding clap_on_literals
check_takes file = refl

pub check_file : (file : Text) → first_of (codes "file") (matches_of check_app (codes "check" ∷ codes "--" ∷ file ∷ [])) ≡ Some file
unfolding clap_on_literals
check_file file = refl

pub gen_takes : (text : Text) → is_signed_in (pos 1) (pos 100000) text ≡ true → takes gen_app (codes "gen" ∷ codes "--" ∷ text ∷ []) ≡ true
unfolding clap_on_literals
gen_takes text h = rw h refl

pub gen_items : (text : Text) → one_of (codes "items") (matches_of gen_app (codes "gen" ∷ codes "--" ∷ text ∷ [])) ≡ Some (without_minus text)
unfolding clap_on_literals
gen_items text = refl

abbrev pub sim_words : (steps engines seed file : Text) → List Text
sim_words steps engines seed file = codes "sim" ∷ (codes "--steps=" ++ steps) ∷ (codes "--engines=" ++ engines) ∷ (codes "--seed=" ++ seed) ∷ codes "--" ∷ file ∷ []

-- three options are tested one after another
all_three : Bool → Bool → Bool → Bool
all_three a b c = (((a && true) && true) && (((b && true) && true) && (((c && true) && true) && true))) && true

all_three_true : (a b c : Bool) → a ≡ true → b ≡ true → c ≡ true → all_three a b c ≡ true
unfolding all_three
all_three_true a b c ha hb hc = rw (ha, hb, hc) refl

sim_tests : (p q r : ValueParser) (steps engines seed file : Text)
    → takes (sim_app_of p q r) (sim_words steps engines seed file) ≡ all_three (accepts false p steps) (accepts false q engines) (accepts false r seed)
unfolding clap_on_literals all_three
sim_tests p q r steps engines seed file = refl

sim_takes_of : (p q r : ValueParser) (steps engines seed file : Text) → accepts false p steps ≡ true → accepts false q engines ≡ true
    → accepts false r seed ≡ true → takes (sim_app_of p q r) (sim_words steps engines seed file) ≡ true
sim_takes_of p q r steps engines seed file hp hq hr = sim_tests p q r steps engines seed file ∙ all_three_true _ _ _ hp hq hr

pub sim_takes : (steps engines seed file : Text) → is_signed_in (pos 1) (pos 10000000) steps ≡ true → is_signed_in (pos 1) (pos 32) engines ≡ true
    → is_unsigned_in 0 18446744073709551615 seed ≡ true → takes sim_app (sim_words steps engines seed file) ≡ true
sim_takes = sim_takes_of (from_one 10000000) (from_one 32) (vp.Unsigned 0 18446744073709551615)

pub sim_file : (steps engines seed file : Text) → first_of (codes "file") (matches_of sim_app (sim_words steps engines seed file)) ≡ Some file
unfolding clap_on_literals
sim_file steps engines seed file = refl

pub sim_steps : (steps engines seed file : Text) → one_of (codes "steps") (matches_of sim_app (sim_words steps engines seed file)) ≡ Some (without_minus steps)
unfolding clap_on_literals
sim_steps steps engines seed file = refl

pub sim_engines : (steps engines seed file : Text) → one_of (codes "engines") (matches_of sim_app (sim_words steps engines seed file)) ≡ Some (without_minus engines)
unfolding clap_on_literals
sim_engines steps engines seed file = refl

pub sim_seed : (steps engines seed file : Text) → one_of (codes "seed") (matches_of sim_app (sim_words steps engines seed file)) ≡ Some seed
unfolding clap_on_literals
sim_seed steps engines seed file = refl
