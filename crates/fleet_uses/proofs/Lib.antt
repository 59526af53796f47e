mod FewFlushes
mod Taken
