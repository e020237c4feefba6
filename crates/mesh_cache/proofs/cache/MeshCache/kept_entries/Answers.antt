use Rattle.std.proofs.Common.{rules, ◌≡◌, cond, [], length, nat_eq, Some, None, sym, ap, ◌∙◌}
use Rattle.std.specs.Map.{lookup}
use Rattle.std.specs.Option.{option_copied}
use Rattle.std.proofs.lemmas.Bool.{eqb-true}
use Rattle.std.proofs.lemmas.List.{nil_from_length}
use Rattle.page_pool.specs.Chains.{entries_at}
use Rattle.mesh_cache.specs.Cache.{Cache, kept_at}
use Rattle.mesh_cache.proofs.Calls.{has_found, kept_found, none_kept}
use Rattle.mesh_cache.proofs.cache.MeshCache.kept_entries.Goals as goal

pub returns-then-is_empty : goal.returns-then-is_empty
returns-then-is_empty c =
    let s = c.self.inside in
    let empty : s.filed.entries ≡ [] = nil_from_length s.filed.entries (eqb-true (length s.filed.entries) 0 (sym c.is_empty.ensures ∙ c.if-is_empty.true)) in
    sym (none_kept s.pool c.args.brick.0 s.filed.entries (ap (lookup (nat_eq c.args.brick.0)) empty) c.args.level)
    ∙ ap (λ (cache : Cache). kept_at c.args.brick.0 c.args.level cache.items) c.self.view_is

pub returns-in_err-filed : goal.returns-in_err-filed
returns-in_err-filed c =
    let s = c.self.inside in
    let at = none_kept s.pool c.args.brick.0 s.filed.entries (sym c.peek.ensures ∙ ap option_copied c.in_err-filed.was) c.args.level in
    let given : c.from_residual.result ≡ None = search rules in
    given ∙ (sym at ∙ ap (λ (cache : Cache). kept_at c.args.brick.0 c.args.level cache.items) c.self.view_is)

pub returns-then-not-is_at : goal.returns-then-not-is_at
returns-then-not-is_at c =
    let s = c.self.inside in
    let v = c.in_ok-filed.filed.now in
    let at = kept_found s.filed s.pool s.capacity c.self.invariant c.args.brick.0 v (sym c.peek.ensures ∙ ap option_copied c.in_ok-filed.was) c.args.level in
    sym (at ∙ ap (λ b. cond b (Some (entries_at s.pool v.chain)) None) (sym c.is_at.ensures ∙ c.if-not-is_at.true))
    ∙ ap (λ (cache : Cache). kept_at c.args.brick.0 c.args.level cache.items) c.self.view_is

pub entries-requires : goal.entries-requires
entries-requires c =
    let s = c.self.inside in
    has_found s.filed s.pool s.capacity c.self.invariant c.args.brick.0 c.in_ok-filed.filed.now (sym c.peek.ensures ∙ ap option_copied c.in_ok-filed.was)

pub returns : goal.returns
returns c =
    let s = c.self.inside in
    let v = c.in_ok-filed.filed.now in
    let at = kept_found s.filed s.pool s.capacity c.self.invariant c.args.brick.0 v (sym c.peek.ensures ∙ ap option_copied c.in_ok-filed.was) c.args.level in
    ap Some c.entries.ensures
    ∙ (sym (at ∙ ap (λ b. cond b (Some (entries_at s.pool v.chain)) None) (sym c.is_at.ensures ∙ c.if-not-is_at.false))
    ∙ ap (λ (cache : Cache). kept_at c.args.brick.0 c.args.level cache.items) c.self.view_is)
