-- How many mirrors, processes, mapped pages and uses of a frame there are at most.
pub mod CountsBelow
pub mod PagesFrom
pub mod FewOfEach
pub mod MappedPages
pub mod CountsKept
pub mod UsesOfAFrame
