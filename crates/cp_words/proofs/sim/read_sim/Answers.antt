use Rattle.std.proofs.Common.{◌≡◌, ◌∙◌, [], ◌∷◌, is_some, map, codes, rules, ap, sym}
use Rattle.clap.specs.Words.{found_of, rows_of}
use Rattle.cp_words.proofs.Values.{sim_taken, sim_rows, sim_is, same_text}
use Rattle.cp_words.proofs.sim.read_sim.Goals as goal

pub matches_of-requires : goal.matches_of-requires
matches_of-requires c =
    let w = c.args.words.now in
    let words_are : map (λ s. s.now) c.as_slice.result.now ≡ codes "sim" ∷ w.steps.now ∷ w.engines.now ∷ w.seed.now ∷ codes "--" ∷ w.file.now ∷ [] = search rules in
    sim_taken _ _ w.file.now w.steps.now w.engines.now w.seed.now c.in_ok-reader.ensures words_are c.requires.steps c.requires.engines c.requires.seed

pub str_of-requires : goal.str_of-requires
str_of-requires c =
    let w = c.args.words.now in
    let words_are : map (λ s. s.now) c.as_slice.result.now ≡ codes "sim" ∷ w.steps.now ∷ w.engines.now ∷ w.seed.now ∷ codes "--" ∷ w.file.now ∷ [] = search rules in
    let rows = sim_rows _ _ w.file.now w.steps.now w.engines.now w.seed.now (rows_of (found_of c.in-Ok.matches)) c.in_ok-reader.ensures words_are c.in-Ok.ensures.ok
    c.requires.steps c.requires.engines c.requires.seed in
    ap is_some rows.file_is

pub u32_of-requires : goal.u32_of-requires
u32_of-requires c =
    let w = c.args.words.now in
    let words_are : map (λ s. s.now) c.as_slice.result.now ≡ codes "sim" ∷ w.steps.now ∷ w.engines.now ∷ w.seed.now ∷ codes "--" ∷ w.file.now ∷ [] = search rules in
    let rows = sim_rows _ _ w.file.now w.steps.now w.engines.now w.seed.now (rows_of (found_of c.in-Ok.matches)) c.in_ok-reader.ensures words_are c.in-Ok.ensures.ok
    c.requires.steps c.requires.engines c.requires.seed in
    ap is_some rows.steps_is ∙ c.requires.steps

pub u32_of-requires-in-Ok : goal.u32_of-requires-in-Ok
u32_of-requires-in-Ok c =
    let w = c.args.words.now in
    let words_are : map (λ s. s.now) c.as_slice.result.now ≡ codes "sim" ∷ w.steps.now ∷ w.engines.now ∷ w.seed.now ∷ codes "--" ∷ w.file.now ∷ [] = search rules in
    let rows = sim_rows _ _ w.file.now w.steps.now w.engines.now w.seed.now (rows_of (found_of c.in-Ok.matches)) c.in_ok-reader.ensures words_are c.in-Ok.ensures.ok
    c.requires.steps c.requires.engines c.requires.seed in
    ap is_some rows.engines_is ∙ c.requires.engines

pub u64_of-requires : goal.u64_of-requires
u64_of-requires c =
    let w = c.args.words.now in
    let words_are : map (λ s. s.now) c.as_slice.result.now ≡ codes "sim" ∷ w.steps.now ∷ w.engines.now ∷ w.seed.now ∷ codes "--" ∷ w.file.now ∷ [] = search rules in
    let rows = sim_rows _ _ w.file.now w.steps.now w.engines.now w.seed.now (rows_of (found_of c.in-Ok.matches)) c.in_ok-reader.ensures words_are c.in-Ok.ensures.ok
    c.requires.steps c.requires.engines c.requires.seed in
    ap is_some rows.seed_is ∙ c.requires.seed

pub returns-in_ok-bytes_of-in-Ok-clause-ok : goal.returns-in_ok-bytes_of-in-Ok-clause-ok
returns-in_ok-bytes_of-in-Ok-clause-ok c =
    let w = c.args.words.now in
    let words_are : map (λ s. s.now) c.as_slice.result.now ≡ codes "sim" ∷ w.steps.now ∷ w.engines.now ∷ w.seed.now ∷ codes "--" ∷ w.file.now ∷ [] = search rules in
    let rows = sim_rows _ _ w.file.now w.steps.now w.engines.now w.seed.now (rows_of (found_of c.in-Ok.matches)) c.in_ok-reader.ensures words_are c.in-Ok.ensures.ok
    c.requires.steps c.requires.engines c.requires.seed in
    let read = same_text w.file.now c.str_of.result.now _ rows.file_is c.str_of.ensures in
    sim_is w.file.now c.in_ok-bytes_of-in-Ok.field-0 _ _ _ c.u32_of.result c.u32_of-in-Ok.result c.u64_of.result w.log
    (read ∙ (sym c.as_bytes.ensures.value ∙ sym c.in_ok-bytes_of-in-Ok.ensures))
    (sym rows.steps_is ∙ c.u32_of.ensures) (sym rows.engines_is ∙ c.u32_of-in-Ok.ensures) (sym rows.seed_is ∙ c.u64_of.ensures)
