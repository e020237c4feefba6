-- Lines keep the limits of the cache, and the counter does not fall.
use Rattle.std.proofs.Common.{◌≡◌, ℕ, ◌≤◌, Bool, true, false, cond, List, [], ◌∷◌, Ok, Err, refl, ap, ◌∙◌, arith, ℤ}
use Rattle.std.specs.Prelude.{Option, Some, None}
use Rattle.iso_defs.specs.Grid.{Grid}
use Rattle.voxel_list.specs.Areas.{Area}
use Rattle.mesh_cache.specs.Cache.{Cache, Item}
use Rattle.mesh_cache.specs.Economy.{Refresh, item_for}
use Rattle.mesh_cache.specs.Economy.Refresh.{done, look, offer}
use Rattle.mesh_cache.specs.Offering.{Puts, cleared}
use Rattle.mesh_cache.specs.declared.cache.Offer.{Offer}
use Rattle.mesh_cache.specs.declared.cache.Offer.TheVariants.{Kept, NoRoom, NoMemory}
use Rattle.bench_core.specs.Keeping.{Refreshes, without_points}
use Rattle.script.specs.Commands.{read_of}
use Rattle.script.specs.declared.command.Command.{Command}
use Rattle.script.specs.declared.command.Command.TheVariants as commands
use Rattle.session.specs.Kept as kept
use Rattle.session.specs.Kept.{CommandKeeps, LineKeeps, Scene, area_of, cache_after, is_done}
use Rattle.session.specs.Lines.{LineMeaning}

put_limits : (cache : Cache) (item : Item) (answer : Offer) (after : Cache) → Puts cache item answer after → after.limits ≡ cache.limits
put_limits cache item Kept after p = ap (λ (c : Cache). c.limits) p.1
put_limits cache item (NoRoom needed free) after p = ap (λ (c : Cache). c.limits) p.3
put_limits cache item NoMemory after p = ap (λ (c : Cache). c.limits) p.1

refresh_limits : (g : Grid) (samples : List ℤ) (level : ℤ) {before after : Cache} {bricks : List ℕ} → Refresh g samples level before bricks after → after.limits ≡ before.limits
refresh_limits g samples level done = refl
refresh_limits g samples level (look brick fresh r) = refresh_limits g samples level r
refresh_limits g samples level {before} (offer {next = next} brick answer stale put r) =
    refresh_limits g samples level r ∙ put_limits (cleared before (item_for g samples level brick)) (item_for g samples level brick) answer next put

-- the limits stay, and the counter does not fall
pub record IsSteady (w v : Scene) : Type 0 where
  pub limits : v.bench.cache.limits ≡ w.bench.cache.limits
  pub later : w.steps ≤ v.steps

still : (w v : Scene) → v.bench.cache ≡ w.bench.cache → v.steps ≡ w.steps → IsSteady w v
still w v c s = record { limits = ap (λ (x : Cache). x.limits) c; later = omega (arith, s) }

changed : (w v : Scene) (c : Command) (reply : List ℕ) → v.bench.cache ≡ cache_after w.bench c reply → v.steps ≡ w.steps → IsSteady w v
changed w v c reply cache steps = record {
  limits = ap (λ (x : Cache). x.limits) cache ∙ by_area (is_done reply) (area_of w.bench.state c);
  later = omega (arith, steps);
}
  where
    by_area : (t : Bool) (area : Option Area) → (cond t (without_points w.bench.state.volume.grid area w.bench.cache) w.bench.cache).limits ≡ w.bench.cache.limits
    by_area false area = refl
    by_area true None = refl
    by_area true (Some a) = refl

refreshed : (w v : Scene) (bricks : List ℕ) (most : ℕ) → Refreshes w.bench v.bench bricks most w.steps v.steps → IsSteady w v
refreshed w v bricks most r = record {
  limits = refresh_limits w.bench.state.volume.grid w.bench.state.volume.samples w.bench.state.level r.cache;
  later = r.later;
}

command_steady : (w v : Scene) (c : Command) (reply : List ℕ) → CommandKeeps w c reply v → IsSteady w v
command_steady w v (commands.Work n) reply h = refreshed w v _ _ h
command_steady w v (commands.Ply name) reply h = refreshed w v _ _ h
command_steady w v (commands.Obj name) reply h = refreshed w v _ _ h
command_steady w v command reply h = changed w v command reply h.0 h.1

line_steady : (w v : Scene) (says : LineMeaning) (replies : List (List ℕ)) → LineKeeps w says replies v → IsSteady w v
line_steady w v (Ok None) replies h = still w v h.0 h.1
line_steady w v (Ok (Some c)) replies h = command_steady w v c h.0 h.2
line_steady w v (Err fault) replies h = still w v h.0 h.1

both : (w m v : Scene) → IsSteady w m → IsSteady m v → IsSteady w v
both w m v a b = record { limits = b.limits ∙ a.limits; later = omega (arith, a.later, b.later) }

pub kept_steady : (lines replies : List (List ℕ)) (w v : Scene) → kept.Kept w lines replies v → IsSteady w v
kept_steady [] replies w v h = still w v (ap (λ (x : Scene). x.bench.cache) h.1) (ap (λ (x : Scene). x.steps) h.1)
kept_steady (l ∷ lines) replies w v h = both w h.2 v (line_steady w h.2 (read_of l) h.0 h.4.keeps) (kept_steady lines h.1 h.2 v h.5)
