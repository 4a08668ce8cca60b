use Rattle.std.proofs.Common.{◌≡◌, ◌+◌, ◌++◌, ℕ, ◌-◌, [], arith, suc, refl, append_assoc, append-nil}
use Rattle.swh_gen.specs.Stream.{state_after, commits_from, drawn_commit}
use Rattle.swh_gen.proofs.job.Goals as goal

-- the commits that are left, the first of them written out
commits_from-more : (n k place x : ℕ) → n ≡ suc k
    → commits_from n place x ≡ drawn_commit place x ++ commits_from k (place + 1) (state_after (state_after x))
unfolding commits_from
commits_from-more n k place x e = rw e refl

commits_from-none : (n place x : ℕ) → n ≡ 0 → commits_from n place x ≡ []
unfolding commits_from
commits_from-none n place x e = rw e refl

pub loop-place-preserved : goal.loop-place-preserved
loop-place-preserved c =
    let left : c.args.size - c.loop-place.place ≡ suc (c.args.size - (c.loop-place.place + 1)) = omega arith in
    let more = commits_from-more _ _ c.loop-place.place c.loop-place.state left in
    let regroup = append_assoc c.loop-place.text.items (drawn_commit c.loop-place.place c.loop-place.state) (commits_from (c.args.size - (c.loop-place.place + 1)) (c.loop-place.place + 1) (state_after (state_after c.loop-place.state))) in
    let added : c.push_commit.new.text.items ≡ c.loop-place.text.items ++ drawn_commit c.loop-place.place c.loop-place.state = cc (c.in_ok-push_commit.ensures) in
    cc

pub returns : goal.returns
returns c =
    let none : c.args.size - c.loop-place.place ≡ 0 = omega arith in
    let rest = commits_from-none _ c.loop-place.place c.loop-place.state none in
    let whole = append-nil c.loop-place.text.items in
    cc
