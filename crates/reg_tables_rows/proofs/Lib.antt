mod ArchiveIds
mod OwnIds
mod OwnRowids
mod Words
