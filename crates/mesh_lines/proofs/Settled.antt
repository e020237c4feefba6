-- Whole blocks of what waits are written, and what stands behind them waits on.
use Rattle.std.proofs.Common.{◌≡◌, ℕ, List, [], ◌++◌, take, drop, Ok, Err, sym, ◌∙◌, ap, append_assoc}
use Rattle.std.proofs.lemmas.List.{append-nil, take-append-drop}
use Rattle.byte_streams.specs.Seen.{Puts, Stages, Tape}
use Rattle.byte_streams.specs.declared.Failed.{Failed}

-- where a block was written, the rest waits
pub block_written : {T U : Type 0} (old new : Tape) (x : U) (y : T) (before after all part : List ℕ) (block : ℕ) → before ≡ all → after ≡ drop block all → part ≡ take block all
    → Puts {E = Failed} old new (Ok x) part → Stages {E = Failed} old new before after (Ok y) []
block_written old new x y before after all part block whole rest front put = record {
  gained = (part, append-nil before ∙ (whole ∙ (sym (take-append-drop block all) ∙ (ap (λ l. l ++ drop block all) (sym front) ∙ ap (λ l. part ++ l) (sym rest)))), put.gained);
  beside = put.beside;
  cause = record { later = put.cause.later; failed = tt };
}

-- where it was not, a front of it was
pub block_cut : {T U : Type 0} (old new : Tape) (e e' : Failed) (before after all part : List ℕ) (block : ℕ) → before ≡ all → part ≡ take block all
    → Puts {T = U} old new (Err e) part → Stages {T = T} old new before after (Err e') []
block_cut old new e e' before after all part block whole front put = record {
  gained = (
    put.gained.0,
    put.gained.1 ++ drop block all,
    append-nil before
        ∙ (whole ∙ (sym (take-append-drop block all)
        ∙ (ap (λ l. l ++ drop block all) (sym front ∙ put.gained.2) ∙ append_assoc put.gained.0 put.gained.1 (drop block all)))),
    put.gained.3,
  );
  beside = put.beside;
  cause = record { later = put.cause.later; failed = put.cause.failed };
}
