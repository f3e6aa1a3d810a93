-- Demand 3's last sentence, on the definition: a batch whose splices are apart, and leave the root unreplaced, answers with the old tree rewritten in one go.
--     Tree0    tree 0 among all current trees: what a splice does to it and to its paths
--     Aims     where a change aims, told by the old paths of its targets
--     Step     one step of a run is a splice in tree 0 where its target tells, or leaves tree 0
--     Run      any performed list of changes whose splices are apart: tree 0 and its paths are as demand 3 says
--     Answered a batch whose splices are apart answers with the one-go tree; a test for that
--     Demand3  DEMAND 3, whole
pub mod Aims
pub mod Answered
pub mod Demand3
pub mod Run
