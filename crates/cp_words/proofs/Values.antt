-- Values that the grammar accepts, as `clap` takes and reads them.
use Rattle.std.proofs.Common.{◌≡◌, ◌∙◌, ℕ, ◌<◌, ◌≤◌, ◌^◌, ◌==◌, ◌++◌, Bool, true, false, cond, List, [], ◌∷◌, length, take, drop, get_or, if◌then◌else◌, Option, Some, None, is_some, codes, rules, lit<, lit≤, arith, refl, sym, ap, ap₂, subst}
use Rattle.std.specs.Prelude.{ℤ, pos, neg_ℤ, ◌≤ℤ◌, FitsSigned, unwrap_or, option_and_then}
use mir.Syntax.{w64}
use Rattle.std.specs.Int.{IsInRange}
use Rattle.std.specs.Str.Parse.{IsNumeral, digits_value, signed_digits_value, starts_with_minus, without_leading_plus, without_leading_sign}
use Rattle.std.proofs.lemmas.Bool.{ne_eqb}
use Rattle.std.proofs.lemmas.Int.{ints}
use Rattle.std.proofs.lemmas.List.{take-append-drop}
use Rattle.std.proofs.lemmas.Slice.Eq.{bytes_eq-Decides}
use Rattle.std.proofs.lemmas.Str.Parse.{digit_at, digit_from_value}
use Rattle.clap.specs.Words.{App, Row, Text, first_of, matches_of, one_of, takes, without_minus}
use Rattle.clap.specs.ValueTests.{is_signed_in, is_unsigned_in}
use Rattle.clap.specs.declared.builder.value_parser.ValueParser.TheVariants as vp
use Rattle.clap.proofs.ValueTestLemmas.{Accepts-accepts}
use Rattle.cp_words.specs.Words.{NumberOption, is_of, number_by, number_in}
use Rattle.cp_words.specs.Commands.{steps, engines, seed, sim_from}
use Rattle.cp_words.specs.Readers.{check_app, gen_app, sim_app, number_at}
use Rattle.cp_words.specs.declared.command.Command.TheVariants.{Sim}
use Rattle.cp_words.proofs.Numerals.{IsIn, in_range, no_plus, numeral_of, wider}
use Rattle.cp_words.proofs.Reading.{check_file, gen_items, sim_words, sim_file, sim_steps, sim_engines, sim_seed, sim_takes}

no_minus : (text : List ℕ) → IsNumeral 10 text → without_minus text ≡ text
no_minus [] h = refl
no_minus (c ∷ more) h =
    let other : (c == 45) ≡ false = ne_eqb _ _ (λ e. omega (arith, digit_from_value c h.1.0)) in
    ap (λ (b : Bool). unwrap_or (if b then Some more else None) (c ∷ more)) other

unsigned_minus : (text : List ℕ) → IsNumeral 10 text → starts_with_minus text ≡ false
unsigned_minus text h = ne_eqb _ _ (λ e. let at : IsInRange 48 57 (get_or text 0 0) = digit_at text 0 h.1 h.0 in omega arith)

unsigned_sign : (text : List ℕ) → IsNumeral 10 text → without_leading_sign text ≡ text
unsigned_sign text h = ap (λ (b : Bool). cond b (drop 1 text) (without_leading_plus text)) (unsigned_minus text h) ∙ no_plus text h

unsigned_value : (text : List ℕ) → IsNumeral 10 text → signed_digits_value 10 text ≡ pos (digits_value 10 text)
unsigned_value text h =
    ap (λ (b : Bool). cond b (neg_ℤ (pos (digits_value 10 (without_leading_sign text)))) (pos (digits_value 10 (without_leading_sign text)))) (unsigned_minus text h)
    ∙ ap (λ (t : List ℕ). pos (digits_value 10 t)) (unsigned_sign text h)

fits_signed : (n : ℕ) → n < 2 ^ 63 → FitsSigned w64 (pos n)
fits_signed n h = search (rules, ints)

-- a number in a range is taken by a signed parser of that range
pub signed : (least most : ℕ) (text : List ℕ) → most < 2 ^ 63 → IsIn least most text → is_signed_in (pos least) (pos most) text ≡ true
signed least most text small i =
    let numeral = numeral_of text i.numeral in
    let low : least ≤ digits_value 10 text = i.low in
    let high : digits_value 10 text ≤ most = i.high in
    let above : pos least ≤ℤ pos (digits_value 10 text) = omega (arith, ints) in
    let below : pos (digits_value 10 text) ≤ℤ pos most = omega (arith, ints) in
    Accepts-accepts false (vp.Signed (pos least) (pos most)) text (
      subst (λ (t : List ℕ). IsNumeral 10 t) (sym (unsigned_sign text numeral)) numeral,
      subst (λ (z : ℤ). FitsSigned w64 z) (sym (unsigned_value text numeral)) (fits_signed (digits_value 10 text) (omega arith)),
      subst (λ (z : ℤ). pos least ≤ℤ z) (sym (unsigned_value text numeral)) above,
      subst (λ (z : ℤ). z ≤ℤ pos most) (sym (unsigned_value text numeral)) below,
    )

pub unsigned : (most : ℕ) (text : List ℕ) → most < 2 ^ 64 → IsIn 0 most text → is_unsigned_in 0 most text ≡ true
unsigned most text small i =
    let numeral = numeral_of text i.numeral in
    let high : digits_value 10 text ≤ most = i.high in
    Accepts-accepts false (vp.Unsigned 0 most) text (
    subst (λ (t : List ℕ). IsNumeral 10 t × (digits_value 10 t < 2 ^ 64) × (0 ≤ digits_value 10 t) × (digits_value 10 t ≤ most))
    (sym (no_plus text numeral)) (numeral, omega arith, omega arith, high)
    )

-- the word of an option that has a number
pub record IsOptionWord (o : NumberOption) (word : List ℕ) : Type 0 where
  pub text : List ℕ
  pub is : word ≡ o.beginning ++ text
  pub number : IsIn o.least o.most text
  pub by : number_by o word ≡ Some (digits_value 10 text)

pub option_word : (o : NumberOption) (word : List ℕ) → is_some (number_by o word) ≡ true → IsOptionWord o word
option_word o word h = go (is_of o word) refl
  where
    text : List ℕ
    text = drop (length o.beginning) word

    go : (b : Bool) → is_of o word ≡ b → IsOptionWord o word
    go true e =
        let begins : o.beginning ≡ take (length o.beginning) word = (bytes_eq-Decides o.beginning (take (length o.beginning) word)).0 e in
        let by_text : number_by o word ≡ number_in o.least o.most (drop (length o.beginning) word) =
        ap (λ (b : Bool). if b then number_in o.least o.most (drop (length o.beginning) word) else None) e in
        let number = in_range o.least o.most (drop (length o.beginning) word) (ap is_some (sym by_text) ∙ h) in
        record {
          text = drop (length o.beginning) word;
          is = sym (take-append-drop (length o.beginning) word) ∙ ap (λ (l : List ℕ). l ++ drop (length o.beginning) word) (sym begins);
          number = number;
          by = by_text ∙ number.value;
        }
    go false e =
        let none : number_by o word ≡ None = ap (λ (b : Bool). if b then number_in o.least o.most (drop (length o.beginning) word) else None) e in
        let bad : false ≡ true = ap is_some (sym none) ∙ h in
        cc

-- the rows that each reader makes of its words
pub check_rows : (app : App) (words : List Text) (file : Text) (rows : List Row) → app ≡ check_app → words ≡ codes "check" ∷ codes "--" ∷ file ∷ []
    → rows ≡ matches_of app words → first_of (codes "file") rows ≡ Some file
check_rows app words file rows ea ew er = ap (first_of (codes "file")) (er ∙ ap₂ matches_of ea ew) ∙ check_file file

number_at_text : (least most above : ℕ) (id text : Text) (rows : List Row) → most ≤ above → IsIn least most text → one_of id rows ≡ Some text
    → number_at above id rows ≡ Some (digits_value 10 text)
number_at_text least most above id text rows le i e = ap (option_and_then (number_in 0 above)) e ∙ wider least most above text le i

pub gen_rows : (app : App) (words : List Text) (text : Text) (rows : List Row) → app ≡ gen_app → words ≡ codes "gen" ∷ codes "--" ∷ text ∷ []
    → rows ≡ matches_of app words → IsIn 1 100000 text → number_at 4294967295 (codes "items") rows ≡ Some (digits_value 10 text)
gen_rows app words text rows ea ew er i =
    number_at_text 1 100000 4294967295 (codes "items") text rows (lit≤ tt) i
    (ap (one_of (codes "items")) (er ∙ ap₂ matches_of ea ew) ∙ (gen_items text ∙ ap (λ (t : Text). Some t) (no_minus text (numeral_of text i.numeral))))

pub record SimRows (file steps_word engines_word seed_word : Text) (rows : List Row) : Type 0 where
  pub file_is : first_of (codes "file") rows ≡ Some file
  pub steps_is : number_at 4294967295 (codes "steps") rows ≡ number_by steps steps_word
  pub engines_is : number_at 4294967295 (codes "engines") rows ≡ number_by engines engines_word
  pub seed_is : number_at 18446744073709551615 (codes "seed") rows ≡ number_by seed seed_word

-- the words of `sim` by their parts
sim_parts : (file s e d : Text) (a : IsOptionWord steps s) (b : IsOptionWord engines e) (k : IsOptionWord seed d)
    → codes "sim" ∷ s ∷ e ∷ d ∷ codes "--" ∷ file ∷ [] ≡ sim_words a.text b.text k.text file
sim_parts file s e d a b k = λ i. codes "sim" ∷ a.is i ∷ b.is i ∷ k.is i ∷ codes "--" ∷ file ∷ []

pub sim_taken : (app : App) (words : List Text) (file s e d : Text) → app ≡ sim_app → words ≡ codes "sim" ∷ s ∷ e ∷ d ∷ codes "--" ∷ file ∷ []
    → is_some (number_by steps s) ≡ true → is_some (number_by engines e) ≡ true → is_some (number_by seed d) ≡ true → takes app words ≡ true
sim_taken app words file s e d ea ew hs he hd =
    let a = option_word steps s hs in
    let b = option_word engines e he in
    let k = option_word seed d hd in
    ap₂ takes ea (ew ∙ sim_parts file s e d a b k)
    ∙ sim_takes a.text b.text k.text file (signed 1 10000000 a.text (lit< tt) a.number) (signed 1 32 b.text (lit< tt) b.number)
    (unsigned 18446744073709551615 k.text (lit< tt) k.number)

pub sim_rows : (app : App) (words : List Text) (file s e d : Text) (rows : List Row) → app ≡ sim_app
    → words ≡ codes "sim" ∷ s ∷ e ∷ d ∷ codes "--" ∷ file ∷ [] → rows ≡ matches_of app words
    → is_some (number_by steps s) ≡ true → is_some (number_by engines e) ≡ true → is_some (number_by seed d) ≡ true → SimRows file s e d rows
sim_rows app words file s e d rows ea ew er hs he hd = go (option_word steps s hs) (option_word engines e he) (option_word seed d hd)
  where
    go : (a : IsOptionWord steps s) (b : IsOptionWord engines e) (k : IsOptionWord seed d) → SimRows file s e d rows
    go a b k =
        let is : rows ≡ matches_of sim_app (sim_words a.text b.text k.text file) = er ∙ ap₂ matches_of ea (ew ∙ sim_parts file s e d a b k) in
        record {
          file_is = ap (first_of (codes "file")) is ∙ sim_file a.text b.text k.text file;
          steps_is = number_at_text 1 10000000 4294967295 (codes "steps") a.text rows (lit≤ tt) a.number
              (ap (one_of (codes "steps")) is ∙ (sim_steps a.text b.text k.text file ∙ ap (λ (t : Text). Some t) (no_minus a.text (numeral_of a.text a.number.numeral)))) ∙ sym a.by;
          engines_is = number_at_text 1 32 4294967295 (codes "engines") b.text rows (lit≤ tt) b.number
              (ap (one_of (codes "engines")) is ∙ (sim_engines a.text b.text k.text file ∙ ap (λ (t : Text). Some t) (no_minus b.text (numeral_of b.text b.number.numeral)))) ∙ sym b.by;
          seed_is = number_at_text 0 18446744073709551615 18446744073709551615 (codes "seed") k.text rows (lit≤ tt) k.number
              (ap (one_of (codes "seed")) is ∙ sim_seed a.text b.text k.text file) ∙ sym k.by;
        }

-- the command of values that are read
pub sim_is : (file read : Text) (s e d : Option ℕ) (steps engines seed : ℕ) (log : Bool) → file ≡ read → s ≡ Some steps → e ≡ Some engines → d ≡ Some seed
    → sim_from (Some file) s e d (Some log) ≡ Some (Sim read steps engines seed log)
sim_is file read s e d steps engines seed log ef es ee ed = λ i. sim_from (Some (ef i)) (es i) (ee i) (ed i) (Some log)

pub same_text : (a b : Text) (o : Option Text) → o ≡ Some a → o ≡ Some b → a ≡ b
same_text a b o ea eb = cc
